-- What an event leaves alone, and that no generation falls, for those who cite an event and not its parts.
use Rattle.std.proofs.Common.{◌≡◌, ℕ, ◌<◌, ◌≤◌, ◌≢◌, ◌∙◌, Bool, true, false, cond, List, [], ◌∷◌, Option, Some, None, length, set, length-set, refl, ap, arith}
use Rattle.std.proofs.Math.Nat.{le_refl, le_trans}
use Rattle.std.specs.List.{slice_get}
use Rattle.std.proofs.lemmas.List.{get_or-set_same}
use Rattle.gen_core.specs.declared.event.GenEvent.{GenEvent}
use Rattle.gen_core.specs.declared.event.GenEvent.TheVariants.{Enter, Leave, TakeRole, LookAhead, Flip, Look, GiveRole}
use Rattle.gen_core.specs.declared.state.GenProc.{GenProc}
use Rattle.gen_core.specs.Plain.{Caller, Generations}
use Rattle.gen_core.specs.State.{fresh_proc, proc_at, caller_at, put_proc, put_caller}
use Rattle.gen_core.specs.Events.{is_even, place_of, caller_entered, proc_entered, caller_left, proc_left, role_taken, looked_ahead, caller_flipped, proc_flipped, caller_passed, role_given, is_drained, home_of, turn_of, taken, is_possible, effect, happens, caller_of}
use Rattle.k42_places.proofs.Written.{slice_get-set_else, get_or-set_related}
use Rattle.gen_core.specs.Runs.{run}
use Rattle.gen_core.proofs.Stages.{exit_is_counted}

-- the processor at which an event stands
abbrev pub proc_of : Generations → GenEvent → ℕ
proc_of s (Enter c) = (caller_at s c).proc
proc_of s (Leave c) = (caller_at s c).proc
proc_of s (TakeRole c) = 0
proc_of s (LookAhead c) = place_of (caller_at s c).grace
proc_of s (Flip c) = place_of (caller_at s c).grace
proc_of s (Look c) = place_of (caller_at s c).grace
proc_of s (GiveRole c) = 0

-- but for one caller and one processor the states are the same, and the caller stays on its processor
pub record ChangesOnly (s t : Generations) (c p : ℕ) : Type 0 where
  pub many_procs : length t.procs ≡ length s.procs
  pub many_callers : length t.callers ≡ length s.callers
  pub other_callers : (i : ℕ) → i ≢ c → slice_get t.callers i ≡ slice_get s.callers i
  pub other_procs : (q : ℕ) → q ≢ p → slice_get t.procs q ≡ slice_get s.procs q
  pub proc : (caller_at t c).proc ≡ (caller_at s c).proc

pub ChangesOnly-refl : (s : Generations) (c p : ℕ) → ChangesOnly s s c p
ChangesOnly-refl s c p = record {
  many_procs = refl;
  many_callers = refl;
  other_callers = λ i other. refl;
  other_procs = λ q other. refl;
  proc = refl;
}

module _ (s : Generations) (c : ℕ) (x : Caller) (there : c < length s.callers) (same : x.proc ≡ (caller_at s c).proc) where
  one_caller : (p : ℕ) (role : Option ℕ) → ChangesOnly s (record s { callers = set s.callers c x; role = role }) c p
  one_caller p role = record {
    many_procs = refl;
    many_callers = length-set s.callers c x;
    other_callers = λ i other. slice_get-set_else s.callers c i x other;
    other_procs = λ q other. refl;
    proc = ap (λ y. y.proc) (get_or-set_same s.callers c x _ there) ∙ same;
  }

  with_proc : (p : ℕ) (k : GenProc) → ChangesOnly s (record s { procs = set s.procs p k; callers = set s.callers c x }) c p
  with_proc p k = record {
    many_procs = length-set s.procs p k;
    many_callers = length-set s.callers c x;
    other_callers = λ i other. slice_get-set_else s.callers c i x other;
    other_procs = λ q other. slice_get-set_else s.procs p q k other;
    proc = ap (λ y. y.proc) (get_or-set_same s.callers c x _ there) ∙ same;
  }

taken_only : (s : Generations) (c : ℕ) → c < length s.callers → (role : Option ℕ)
    → ChangesOnly s (taken s c role) c 0
taken_only s c there None = one_caller s c (role_taken (caller_at s c)) there refl 0 (Some c)
taken_only s c there (Some holder) = ChangesOnly-refl s c 0

looked_only : (s : Generations) (c p : ℕ) → c < length s.callers → (drained : Bool)
    → ChangesOnly s (cond drained (put_caller s c (caller_passed (caller_at s c) (length s.procs))) s) c p
looked_only s c p there true = one_caller s c (caller_passed (caller_at s c) (length s.procs)) there refl p s.role
looked_only s c p there false = ChangesOnly-refl s c p

-- an effect changes the event's caller and processor alone
pub only_caller : (s : Generations) (event : GenEvent) → caller_of event < length s.callers
    → ChangesOnly s (effect s event) (caller_of event) (proc_of s event)
only_caller s (Enter c) there =
    with_proc s c (caller_entered (caller_at s c) (home_of s c)) there refl (caller_at s c).proc (proc_entered (home_of s c))
only_caller s (Leave c) there =
    with_proc s c (caller_left (caller_at s c)) there refl (caller_at s c).proc (proc_left (home_of s c) (caller_at s c).active)
only_caller s (TakeRole c) there = taken_only s c there s.role
only_caller s (LookAhead c) there =
    one_caller s c (looked_ahead (caller_at s c) (turn_of s c)) there refl (place_of (caller_at s c).grace) s.role
only_caller s (Flip c) there =
    with_proc s c (caller_flipped (caller_at s c) (turn_of s c) (length s.procs)) there refl (place_of (caller_at s c).grace)
    (proc_flipped (turn_of s c) (caller_at s c).coming)
only_caller s (Look c) there = looked_only s c (place_of (caller_at s c).grace) there (is_drained (caller_at s c) (turn_of s c))
only_caller s (GiveRole c) there = one_caller s c (role_given (caller_at s c)) there refl 0 None

-- so does an event, possible or not
pub happens_only : (s : Generations) (event : GenEvent) → caller_of event < length s.callers
    → ChangesOnly s (happens s event) (caller_of event) (proc_of s event)
happens_only s event there = by_test (is_possible s event) where
  by_test : (b : Bool) → ChangesOnly s (cond b (effect s event) s) (caller_of event) (proc_of s event)
  by_test true = only_caller s event there
  by_test false = ChangesOnly-refl s (caller_of event) (proc_of s event)

-- no processor's generation falls

abbrev RisesTo : GenProc → GenProc → Type 0
RisesTo k l = k.generation ≤ l.generation

rises_at : (s : Generations) (q p : ℕ) (l : GenProc) → RisesTo (proc_at s q) l
    → RisesTo (proc_at s p) (proc_at (put_proc s q l) p)
rises_at s q p l here = get_or-set_related RisesTo (λ k. le_refl k.generation) s.procs q p l fresh_proc here

left_rises : (k : GenProc) (active : Option ℕ) → RisesTo k (proc_left k active)
left_rises k None = le_refl k.generation
left_rises k (Some generation) = rw (exit_is_counted k (is_even generation)).generation (le_refl k.generation)

effect_rises : (s : Generations) (event : GenEvent) (p : ℕ) → RisesTo (proc_at s p) (proc_at (effect s event) p)
effect_rises s (Enter c) p = rises_at s (caller_at s c).proc p (proc_entered (home_of s c)) (le_refl (home_of s c).generation)
effect_rises s (Leave c) p =
    rises_at s (caller_at s c).proc p (proc_left (home_of s c) (caller_at s c).active) (left_rises (home_of s c) (caller_at s c).active)
effect_rises s (TakeRole c) p = by_role s.role where
  by_role : (role : Option ℕ) → RisesTo (proc_at s p) (proc_at (taken s c role) p)
  by_role None = le_refl (proc_at s p).generation
  by_role (Some holder) = le_refl (proc_at s p).generation
effect_rises s (LookAhead c) p = le_refl (proc_at s p).generation
effect_rises s (Flip c) p =
    rises_at s (place_of (caller_at s c).grace) p (proc_flipped (turn_of s c) (caller_at s c).coming) (omega arith)
effect_rises s (Look c) p = by_test (is_drained (caller_at s c) (turn_of s c)) where
  by_test : (drained : Bool)
      → RisesTo (proc_at s p) (proc_at (cond drained (put_caller s c (caller_passed (caller_at s c) (length s.procs))) s) p)
  by_test true = le_refl (proc_at s p).generation
  by_test false = le_refl (proc_at s p).generation
effect_rises s (GiveRole c) p = le_refl (proc_at s p).generation

pub no_generation_falls : (events : List GenEvent) (s : Generations) (p : ℕ)
    → (proc_at s p).generation ≤ (proc_at (run events s) p).generation
no_generation_falls [] s p = le_refl (proc_at s p).generation
no_generation_falls (event ∷ events) s p =
    le_trans (by_test (is_possible s event)) (no_generation_falls events (happens s event) p) where
      by_test : (b : Bool) → (proc_at s p).generation ≤ (proc_at (cond b (effect s event) s) p).generation
      by_test true = effect_rises s event p
      by_test false = le_refl (proc_at s p).generation
