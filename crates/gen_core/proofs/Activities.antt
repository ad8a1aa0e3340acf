-- A caller that enters or leaves keeps every fact.
use Rattle.std.proofs.Common.{◌≡◌, ℕ, ◌+◌, ◌≢◌, ◌⊎◌, ◌∙◌, Bool, true, false, not, List, Some, None, set, sym, refl, inl, inr, ⊎_elim, arith}
use Rattle.std.specs.List.{slice_get}
use Rattle.std.proofs.lemmas.Option.{same_Some}
use Rattle.std.proofs.lemmas.Bool.Decides.{nat_tests}
use Rattle.gen_core.specs.declared.state.GenProc.{GenProc}
use Rattle.gen_core.specs.declared.state.GraceAt.{GraceAt}
use Rattle.gen_core.specs.declared.state.GraceAt.TheVariants.{Idle, Flipping, Looking, Quiet}
use Rattle.gen_core.specs.Plain.{Caller, Generations}
use Rattle.gen_core.specs.State.{put_proc, put_caller}
use Rattle.gen_core.specs.Events.{is_even, exits_of, caller_entered, proc_entered, caller_left}
use Rattle.gen_core.specs.Sound.{Course, is_flipped, is_passed, is_next, is_active_in, active_in, generation_of, IsOfStep, IsInCourse}
use Rattle.k42_places.proofs.Counts.{count_by-set_same, count_by-set_more, count_by-set_less}
use Rattle.gen_core.proofs.Stages.{is_even-next, CountsExit}
use Rattle.gen_core.proofs.Frames.{with_active, no_holder_active, no_holder_idle, keeps_activity}

-- the counts of a caller's own processor, as it enters and as it leaves
module _ (callers : List Caller) (c : ℕ) (x : Caller) (at_c : slice_get callers c ≡ Some x) (own : ℕ) where
  pub active_in_more : x.active ≡ None
      → active_in (set callers c (with_active x (Some own))) x.proc own ≡ active_in callers x.proc own + 1
  active_in_more inactive =
      count_by-set_more (is_active_in x.proc own) callers c x (with_active x (Some own)) at_c (rw inactive (grind (arith, nat_tests))) (grind (arith, nat_tests))

  pub active_in_more_else : (g : ℕ) → x.active ≡ None → g ≢ own
      → active_in (set callers c (with_active x (Some own))) x.proc g ≡ active_in callers x.proc g
  active_in_more_else g inactive other =
      count_by-set_same (is_active_in x.proc g) callers c x (with_active x (Some own)) at_c (rw inactive (grind (arith, nat_tests)))

  pub active_in_less : x.active ≡ Some own
      → active_in (set callers c (with_active x None)) x.proc own + 1 ≡ active_in callers x.proc own
  active_in_less active =
      count_by-set_less (is_active_in x.proc own) callers c x (with_active x None) at_c (rw active (grind (arith, nat_tests))) (grind (arith, nat_tests))

  pub active_in_less_else : (g : ℕ) → x.active ≡ Some own → g ≢ own
      → active_in (set callers c (with_active x None)) x.proc g ≡ active_in callers x.proc g
  active_in_less_else g active other =
      count_by-set_same (is_active_in x.proc g) callers c x (with_active x None) at_c (rw active (grind (arith, nat_tests)))

-- an activity in the present generation is in step
pub IsOfStep_present : (base generation : ℕ) (flipped passed : Bool) → generation ≡ generation_of base flipped
    → IsOfStep base flipped passed generation
IsOfStep_present base generation false passed e = e
IsOfStep_present base generation true false e = inr e
IsOfStep_present base generation true true e = e

-- an activity is of the present generation, or of the former one of a processor that was flipped and not passed
pub present_or_former : (base present own : ℕ) (flipped passed : Bool) → present ≡ generation_of base flipped
    → IsOfStep base flipped passed own
    → (own ≡ present) ⊎ ((own ≡ base) × (present ≡ base + 1) × (flipped ≡ true) × (passed ≡ false))
present_or_former base present own false passed e step = inl (step ∙ sym e)
present_or_former base present own true false e step = ⊎_elim (λ former. inr (former, e, refl, refl)) (λ now. inl (now ∙ sym e)) step
present_or_former base present own true true e step = inl (step ∙ sym e)

swap_not : (a b : Bool) → a ≡ not b → b ≡ not a
swap_not true true e = e
swap_not true false e = refl
swap_not false true e = refl
swap_not false false e = e

next_not_flipped : (stage : GraceAt) (p : ℕ) → is_next stage p ≡ true → is_flipped stage p ≡ false
next_not_flipped Idle p e = refl
next_not_flipped (Flipping q) p e = grind (arith, nat_tests)
next_not_flipped (Looking q) p e = cc
next_not_flipped Quiet p e = cc

module _ (course : Course) (s : Generations) (h : IsInCourse course s) (c : ℕ) (x : Caller) (at_c : slice_get s.callers c ≡ Some x)
    (k : GenProc) (at_p : slice_get s.procs x.proc ≡ Some k) where
  pub keeps_entered : x.grace ≡ Idle → x.active ≡ None
      → IsInCourse course (put_proc (put_caller s c (caller_entered x k)) x.proc (proc_entered k))
  keeps_entered idle inactive =
      let in_step = h.generations_in_step x.proc k at_p in
      let old = h.counted_generations x.proc k at_p in
      keeps_activity course s h c x at_c (Some k.generation) (proc_entered k) (no_holder_idle course s h c x at_c idle)
      (h.known_ahead x.proc k at_p)
      in_step
      (h.no_generation_passes_its_field x.proc k at_p)
      (λ generation e. IsOfStep_present course.base generation (is_flipped course.stage x.proc) (is_passed course.stage x.proc)
      (sym (same_Some k.generation generation e) ∙ in_step))
      (record {
        present = let more = active_in_more s.callers c x at_c k.generation inactive in
            let counted = old.present in omega (arith, more, counted);
        former = λ flipped passed.
            let ahead : k.generation ≡ course.base + 1 = rw flipped at in_step in
            let other : course.base ≢ k.generation = omega arith in
            rw (active_in_more_else s.callers c x at_c k.generation course.base inactive other) (old.former flipped passed);
      })

  module _ (own : ℕ) (active : x.active ≡ Some own) where
    -- where the activity is: in the present generation or in the former one
    own_step : (own ≡ k.generation) ⊎ ((own ≡ course.base) × (k.generation ≡ course.base + 1) × (is_flipped course.stage x.proc ≡ true) × (is_passed course.stage x.proc ≡ false))
    own_step =
        present_or_former course.base k.generation own (is_flipped course.stage x.proc) (is_passed course.stage x.proc)
        (h.generations_in_step x.proc k at_p) (h.activities_in_step c x at_c own active)

    pub keeps_left : (l : GenProc) → CountsExit (is_even own) k l
        → IsInCourse course (put_proc (put_caller s c (caller_left x)) x.proc l)
    keeps_left l exit =
        let in_step = h.generations_in_step x.proc k at_p in
        let old = h.counted_generations x.proc k at_p in
        keeps_activity course s h c x at_c None l (no_holder_active course s h c x at_c own active)
        (λ next exits known.
        let unflipped = next_not_flipped course.stage x.proc next in
        let here : own ≡ k.generation = ⊎_elim (λ e. e) (λ former. let ahead = former.2 in absurd (cc)) own_step in
        let same : exits ≡ exits_of k (not (is_even own)) = rw here (h.known_ahead x.proc k at_p next exits known) in
        rw (exit.generation, ← here) (same ∙ sym exit.other))
        (rw exit.generation in_step)
        (rw exit.generation (h.no_generation_passes_its_field x.proc k at_p))
        (λ generation e. absurd (cc))
        (record {
          present = ⊎_elim
              (λ here.
              let less = active_in_less s.callers c x at_c own active in
              let counted = rw (← here) at old.present in
              rw (exit.generation, exit.entered, ← here) (omega (arith, less, counted, exit.own)))
              (λ former.
              let other : k.generation ≢ own = omega (arith, former.0, former.1) in
              let parity : is_even k.generation ≡ not (is_even own) = rw (former.1, former.0) (is_even-next course.base) in
              rw (exit.generation, exit.entered, active_in_less_else s.callers c x at_c own k.generation active other)
              (rw parity (rw exit.other (rw parity at old.present))))
              own_step;
          former = λ flipped passed. ⊎_elim
              (λ here.
              let ahead : k.generation ≡ course.base + 1 = rw flipped at in_step in
              let other : course.base ≢ own = omega (arith, here, ahead) in
              let next : own ≡ course.base + 1 = here ∙ ahead in
              let parity : is_even course.base ≡ not (is_even own) = swap_not (is_even own) (is_even course.base) (rw next (is_even-next course.base)) in
              rw (active_in_less_else s.callers c x at_c own course.base active other)
              (rw parity (rw exit.other (rw parity at (old.former flipped passed)))))
              (λ former.
              let less = active_in_less s.callers c x at_c own active in
              let counted = rw (← (former.0)) at (old.former flipped passed) in
              rw (← (former.0)) (omega (arith, less, counted, exit.own)))
              own_step;
        })
