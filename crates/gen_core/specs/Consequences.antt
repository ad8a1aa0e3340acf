-- What follows in every sound state.
use Rattle.std.specs.Prelude.{ℕ, ◌≡◌, ◌≢◌, ◌+◌, ◌^◌, ◌%◌, ◌<◌, ◌↔◌, Bool, ◌&&◌, ◌==◌, if◌then◌else◌, Some, None, Option, is_some, length, slice_index, count_by, IsTrue, IsFalse}
use Rattle.gen_core.specs.declared.event.GenEvent.{GenEvent}
use Rattle.gen_core.specs.declared.event.GenEvent.TheVariants.{Enter, TakeRole}
use Rattle.gen_core.specs.declared.state.GenProc.{GenProc}
use Rattle.gen_core.specs.declared.state.GraceAt.TheVariants.{Idle}
use Rattle.gen_core.specs.Plain.{Caller, Generations}
use Rattle.gen_core.specs.State.{proc_at, caller_at}
use Rattle.gen_core.specs.Events.{is_even, exits_of, home_of, is_possible, caller_of}
use Rattle.gen_core.specs.Sound.{is_flipped, is_passed, active_in}

-- the holder is the one caller with a grace under way, and it is in no activity
pub record HasOneHolder (s : Generations) : Type 0 where
  pub holder : (c : ℕ) → c < length s.callers → (caller_at s c).grace ≢ Idle → s.role ≡ Some c
  pub under_way : (c : ℕ) → s.role ≡ Some c → (caller_at s c).grace ≢ Idle
  pub inactive : (c : ℕ) → s.role ≡ Some c → (caller_at s c).active ≡ None

-- so many entries of a generation are the exits of its parity and the callers active in it
abbrev pub EntriesAre : Generations → ℕ → ℕ → ℕ → Type 0
EntriesAre s p generation entries =
    entries ≡ exits_of (proc_at s p) (is_even generation) + active_in s.callers p generation

-- the holder's grace has flipped processor p and not passed it
abbrev pub WaitsFor : Generations → ℕ → ℕ → Type 0
WaitsFor s holder p =
    let grace = (caller_at s holder).grace in
    (s.role ≡ Some holder) × IsTrue (is_flipped grace p) × IsFalse (is_passed grace p)

-- the counts of each processor agree for its present generation, and for its former one where the holder waits for it
pub record CountsAgree (s : Generations) : Type 0 where
  pub present : (p : ℕ) → p < length s.procs → EntriesAre s p (proc_at s p).generation (proc_at s p).entered
  pub former : (p holder generation : ℕ) → p < length s.procs → WaitsFor s holder p
      → generation + 1 ≡ (proc_at s p).generation
      → EntriesAre s p generation (slice_index (caller_at s holder).waits p)

-- the lower 32 bits of two counts tell whether they are the same
abbrev pub AreToldModulo : ℕ → ℕ → Type 0
AreToldModulo m n = (m % 2 ^ 32 ≡ n % 2 ^ 32) ↔ (m ≡ n)

-- every activity is in the present generation of its processor
abbrev pub AreAllPresent : Generations → Type 0
AreAllPresent s = (c generation : ℕ) → c < length s.callers → (caller_at s c).active ≡ Some generation
    → generation ≡ (home_of s c).generation

-- the event is neither the holder's nor one that takes a free role
abbrev pub IsOfNoHolder : Option ℕ → GenEvent → Type 0
IsOfNoHolder (Some holder) event = caller_of event ≢ holder
IsOfNoHolder None event = event ≢ TakeRole (caller_of event)

-- role, graces and generations are as they were
pub record KeepsGraces (s t : Generations) : Type 0 where
  pub role : t.role ≡ s.role
  pub graces : (c : ℕ) → (caller_at t c).grace ≡ (caller_at s c).grace
  pub generations : (p : ℕ) → (proc_at t p).generation ≡ (proc_at s p).generation

abbrev pub is_active_on : ℕ → Caller → Bool
is_active_on p x = (x.proc == p) && is_some x.active

abbrev pub exits_so_far : GenProc → ℕ
exits_so_far k = k.exits_even + k.exits_odd

-- each activity of a processor has ended or is under way
abbrev pub entries_so_far : Generations → ℕ → ℕ
entries_so_far s p = exits_so_far (proc_at s p) + count_by (is_active_on p) s.callers

-- how many activities an event begins on a processor
abbrev pub entries_by : Generations → GenEvent → ℕ → ℕ
entries_by s (Enter c) p =
    if is_possible s (Enter c) && ((caller_at s c).proc == p) then 1 else 0
entries_by s _ p = 0
