-- The lower 32 bits of two counts tell whether they are the same, since no more callers lie between them than there are.
use Rattle.std.proofs.Common.{◌≡◌, ℕ, ◌+◌, ◌-◌, ◌^◌, ◌%◌, ◌<◌, ◌≤◌, length, ap, arith}
use Rattle.std.specs.List.{slice_index}
use Rattle.std.proofs.lemmas.List.Sums.{count_by-le-length}
use Rattle.k42_limits.specs.declared.TheConstants.{CALLERS}
use Rattle.gen_core.specs.Plain.{Generations}
use Rattle.gen_core.specs.State.{proc_at, caller_at}
use Rattle.gen_core.specs.Events.{other_exits}
use Rattle.gen_core.specs.Sound.{is_active_in, active_in, IsSound}
use Rattle.gen_core.specs.Consequences.{WaitsFor, AreToldModulo}
use Rattle.gen_core.proofs.Graces.{other_exits_former}
use Rattle.gen_core.proofs.Reached.{one_ahead, waits_agree}

pub same_modulo : (m n : ℕ) → m ≤ n → n < m + 2 ^ 32 → m % 2 ^ 32 ≡ n % 2 ^ 32 → m ≡ n
same_modulo m n le near same = omega (arith, le, near, same)

-- and how far they are apart
pub left_modulo : (m n : ℕ) → m ≤ n → n < m + 2 ^ 32 → (n % 2 ^ 32 + 2 ^ 32 - m % 2 ^ 32) % 2 ^ 32 ≡ n - m
left_modulo m n le near = omega (arith, le, near)

-- no more callers are active than there are
pub few_active : (s : Generations) (p generation : ℕ) → IsSound s → active_in s.callers p generation ≤ CALLERS
few_active s p generation sound =
    let few = count_by-le-length (is_active_in p generation) s.callers in
    omega (arith, few, sound.in_course.many_callers, sound.in_course.limits.few_callers)

-- the exits that the holder waits for at a processor are at most as many short as there are callers
pub waits_near : (s : Generations) (holder p : ℕ) → IsSound s → p < length s.procs → WaitsFor s holder p
    → (other_exits (proc_at s p) ≤ slice_index (caller_at s holder).waits p)
    × (slice_index (caller_at s holder).waits p ≤ other_exits (proc_at s p) + CALLERS)
waits_near s holder p sound there waits =
    let exits = other_exits_former (proc_at s p) sound.course.base (one_ahead s sound p holder there waits) in
    let agree = waits_agree s sound p holder there waits in
    let few = few_active s p sound.course.base sound in
    (omega (arith, exits, agree), omega (arith, exits, agree, few))

pub waits_are_told_modulo : (s : Generations) (holder p : ℕ) → IsSound s → p < length s.procs → WaitsFor s holder p
    → AreToldModulo (other_exits (proc_at s p)) (slice_index (caller_at s holder).waits p)
waits_are_told_modulo s holder p sound there waits =
    let near = waits_near s holder p sound there waits in
    (same_modulo (other_exits (proc_at s p)) (slice_index (caller_at s holder).waits p) near.0 (omega (arith, near.1)), ap (λ n. n % 2 ^ 32))
