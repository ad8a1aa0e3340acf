-- What was begun, and the words of processors.
use Rattle.std.proofs.Common.{◌≡◌, ◌≢◌, ℕ, ◌+◌, ◌*◌, ◌^◌, ◌<◌, ◌≤◌, Bool, true, false, cond, List, [], ◌∷◌, Option, Some, None, length, get_or, set, refl, ap, ◌∙◌, arith, le_refl, get_or-set_other}
use Rattle.std.specs.List.{slice_get, slice_index}
use Rattle.std.specs.Prelude.{sum}
use Rattle.std.proofs.lemmas.Option.{slice_get-get_or}
use Rattle.std.proofs.lemmas.List.Sums.{sum_by-set, sum_by-le}
use Rattle.k42_places.specs.Places.{EachPlace}
use Rattle.gen_core.specs.Events.{is_possible, effect}
use Rattle.gen_core.specs.Plain.{Generations}
use Rattle.gen_core.specs.Sound.{is_flipped}
use Rattle.gen_core.specs.State.{caller_at, proc_at}
use Rattle.gen_core.specs.declared.event.GenEvent.{GenEvent}
use Rattle.gen_core.specs.declared.state.GenProc.{GenProc}
use Rattle.gen_core.specs.declared.state.GraceAt.{GraceAt}
use Rattle.gen_core.proofs.Alone.{no_generation_falls}
use Rattle.k42_board.specs.Generations.{Counts, AreFew, IsProcessorShown, IsProcessorBegun, grace_of, will_flip}
use Rattle.k42_board.specs.Words.{generation_word, exits_word}

pub few_begun : (callers : ℕ) (begun : List ℕ) → callers ≤ 16 → AreFew callers begun → sum begun ≤ 16 * 2 ^ 27
few_begun callers begun few are =
    let most = sum_by-le (λ (n : ℕ). n) (2 ^ 27) begun (λ i d lt. are.few i (get_or begun i d) (slice_get-get_or begun i d lt)) in
    let many = are.many in omega (arith, most, many, few)

pub one_more : (begun : List ℕ) (c n : ℕ) → c < length begun → slice_index begun c ≡ n → sum (set begun c (n + 1)) ≡ sum begun + 1
one_more begun c n lt is = let more = sum_by-set (λ (m : ℕ). m) begun c (n + 1) 0 lt in omega (arith, more, is)

-- the other words of a processor, and the words of the others, stay as one word of generations is written
pub processor_stays : (words : List ℕ) (i new q : ℕ) (k : GenProc) → generation_word q ≢ i → exits_word q 0 ≢ i → exits_word q 1 ≢ i
    → IsProcessorShown words q k → IsProcessorShown (set words i new) q k
processor_stays words i new q k one two three is = record {
  generation = get_or-set_other words i (generation_word q) new 0 one ∙ is.generation;
  even = get_or-set_other words i (exits_word q 0) new 0 two ∙ is.even;
  odd = get_or-set_other words i (exits_word q 1) new 0 three ∙ is.odd;
}

-- the flips of a processor so far, with the one that the grace under way has still to do
abbrev pub flips_of : Generations → ℕ → GenProc → ℕ
flips_of g p k = k.generation + will_flip g.role (grace_of g g.role) p

-- the grace of the holder stays, where that of each caller does
pub grace_stays : (s t : Generations) → ((d : ℕ) → (caller_at t d).grace ≡ (caller_at s d).grace) → (role : Option ℕ)
    → grace_of t role ≡ grace_of s role
grace_stays s t same None = refl
grace_stays s t same (Some holder) = same holder

-- and with it the flips, where each processor keeps its generation
pub flips_same : (s t : Generations) → t.role ≡ s.role → ((d : ℕ) → (caller_at t d).grace ≡ (caller_at s d).grace)
    → EachPlace (λ p l. (k : GenProc) × (slice_get s.procs p ≡ Some k) × (l.generation ≡ k.generation)) t.procs
    → EachPlace (λ p l. (k : GenProc) × (slice_get s.procs p ≡ Some k) × (flips_of t p l ≤ flips_of s p k + 0)) t.procs
flips_same s t role graces same p l here =
    let old = same p l here in
    let grace : grace_of t t.role ≡ grace_of s s.role = ap (grace_of t) role ∙ grace_stays s t graces s.role in
    let will : will_flip t.role (grace_of t t.role) p ≡ will_flip s.role (grace_of s s.role) p = rw (grace, role) refl in
    (old.0, old.1, let is = old.2 in omega (arith, will, is))

-- after an event, each processor was still flipped by what was begun
pub begun_goes : (s g : Generations) (counts after : Counts)
    → (more : ℕ) → sum counts.graces + more ≤ sum after.graces
    → EachPlace (λ p l. (k : GenProc) × (slice_get s.procs p ≡ Some k) × (flips_of g p l ≤ flips_of s p k + more)) g.procs
    → EachPlace (IsProcessorBegun s counts) s.procs → EachPlace (IsProcessorBegun g after) g.procs
begun_goes s g counts after more graces flips begun p l here =
    let old = flips p l here in
    let was = begun p old.0 old.1 in
    record { flipped = let most = was.flipped in let few = old.2 in omega (arith, most, few, graces) }

pub rises_by : (s : Generations) (e : GenEvent) → is_possible s e ≡ true → (p : ℕ)
    → (proc_at s p).generation ≤ (proc_at (effect s e) p).generation
rises_by s e possible p = rw possible at (no_generation_falls (e ∷ []) s p)

-- a grace flips a processor once
pub will_flip_once : (role : Option ℕ) (grace : GraceAt) (p : ℕ) → will_flip role grace p ≤ 1
will_flip_once None grace p = omega arith
will_flip_once (Some holder) grace p = by_test (is_flipped grace p) where
  by_test : (b : Bool) → cond b 0 1 ≤ 1
  by_test true = omega arith
  by_test false = le_refl 1
