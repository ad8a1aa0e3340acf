-- A swap that tries to move its object has drawn nothing.
use Rattle.std.proofs.Common.{◌≡◌, ℕ, ◌+◌, ◌<◌, Bool, true, false, cond, eqb, [], ◌∷◌, refl, sym, ap, ◌∙◌, arith}
use Rattle.std.proofs.lemmas.Bool.{eqb-true}
use Rattle.phase_core.specs.declared.caller.SwapAt.TheVariants.{Moved}
use Rattle.k42_board.proofs.Gained.{extends_as, extends_one}
use Rattle.k42_board.specs.Log.{obstacles, step_at, took}
use Rattle.k42_board.specs.Seen.{PassSeen, IsSamePass}
use Rattle.k42_board.specs.Swapping.{CountFound, at_swap, blocked_word, moved_view, object_swapped}
use Rattle.k42_board.specs.Values.{count_in}
use Rattle.k42_board.specs.Words.{object_word}
use Rattle.k42_board.specs.declared.view.PassView.{PassView}
use Rattle.k42_board.specs.declared.view.StepName.TheVariants as names
use Rattle.k42_board.specs.declared.view.Taken.{Taken}
use Rattle.k42_mediator.specs.Answers.{moving_in}
use Rattle.k42_mediator.specs.declared.answers.Moving.TheVariants as answers
use Rattle.k42_runtime.specs.Phases.{HasGoneOn}
use Rattle.k42_runtime.specs.Swaps.{SwapSeen, IsInFlight}
use Rattle.k42_runtime.specs.declared.swaps.Stage.TheVariants.{Shut}

-- the step that has found this
abbrev tried : {P O R : Type 0} → ℕ → PassView P O R → PassView P O R
tried found v = took names.Move (object_word (object_swapped v)) found (moved_view found v)

-- callers that are counted keep it where it is
counted_now : {P O R : Type 0} (found count : ℕ) (v : PassView P O R) → moving_in v found ≡ answers.InFlight count → (count ≡ count_in found) × (moved_view found v ≡ v)
counted_now found count v = go (eqb found (blocked_word v)) where
  go : (b : Bool) → cond b answers.Moved (answers.InFlight (count_in found)) ≡ answers.InFlight count
      → (count ≡ count_in found) × (cond b (at_swap v (Moved (object_swapped v))) v ≡ v)
  go true e = absurd (cc)
  go false e = (cc, refl)

pub in_flight : {P O R : Type 0} (found count : ℕ) (v w : PassView P O R) → w ≡ tried found v → moving_in v found ≡ answers.InFlight count → 0 < count
    → (w ≡ took names.Move (object_word (object_swapped v)) found v) × IsInFlight count v w
in_flight {O = O} {R = R} found count v w is answer some =
    let counted = counted_now found count v answer in
    let knows : w ≡ took names.Move (object_word (object_swapped v)) found v =
    is ∙ ap (λ (u : PassView _ O R). took names.Move (object_word (object_swapped v)) found u) counted.1 in (
      knows,
      record {
        found = found;
        moved = record {
          gained = [];
          log =
              ap (λ (u : PassView _ O R). u.log) knows
              ∙ ap (λ (o : ℕ). step_at names.Move (object_word o) found ∷ v.log) (sym (ap (λ (u : PassView _ O R). object_swapped u) knows));
          meets_none = refl;
        };
        count_is = counted.0;
        some = some;
      },
    )

-- and where nobody is, nothing is met
nobody : {P O R : Type 0} (found : ℕ) (v : PassView P O R) → moving_in v found ≡ answers.Moved → CountFound v found → count_in found ≡ 0
nobody found v answer is = go (eqb found (blocked_word v)) refl answer where
  none : (f b c : ℕ) → f ≡ b + c → f ≡ b → c ≡ 0
  none f b c first second = omega (arith, first, second)

  go : (b : Bool) → eqb found (blocked_word v) ≡ b → cond b answers.Moved (answers.InFlight (count_in found)) ≡ answers.Moved → count_in found ≡ 0
  go true e same = let counted = is.counted in none found (blocked_word v) (count_in found) counted (eqb-true found (blocked_word v) e)
  go false e same = absurd (cc)

pub moves_on : {P O R : Type 0} (s : SwapSeen) (old new : PassSeen P O R) (found : ℕ) → s.stage ≡ Shut → IsSamePass old new → new.view ≡ tried found old.view
    → moving_in old.view found ≡ answers.Moved → CountFound old.view found → HasGoneOn s s old new
moves_on {P} {O} {R} s old new found shut same knows answer counted = record {
  object = refl;
  to = refl;
  seat = same.seat;
  keep = same.keep;
  caller = record { number = stays (λ u. u.number) refl refl; proc = stays (λ u. u.turn.proc) refl refl };
  drawn = stays (λ u. u.taker.mine) refl refl;
  log = extends_as (stays_log ∙ ap (λ log. step ∷ log) (at_log (eqb found (blocked_word old.view)))) (extends_one step old.view.log met);
  graces = let n = stays (λ u. u.graces) refl refl in omega (arith, n);
  waits = λ e. absurd (let never = sym shut ∙ e in cc);
  worn = λ e w. absurd (let never = sym shut ∙ e in cc);
} where
  step : Taken
  step = step_at names.Move (object_word (object_swapped old.view)) found

  met : obstacles (step ∷ []) ≡ []
  met = rw (nobody found old.view answer counted) refl

  stays_log : new.view.log ≡ (tried found old.view).log
  stays_log = ap (λ (u : PassView P O R). u.log) knows

  at_log : (b : Bool) → (cond b (at_swap old.view (Moved (object_swapped old.view))) old.view).log ≡ old.view.log
  at_log true = refl
  at_log false = refl

  moved : PassView P O R
  moved = took names.Move (object_word (object_swapped old.view)) found (at_swap old.view (Moved (object_swapped old.view)))

  kept : PassView P O R
  kept = took names.Move (object_word (object_swapped old.view)) found old.view

  in_both : {X : Type 0} (field : PassView P O R → X) (b : Bool) → field moved ≡ field old.view → field kept ≡ field old.view
      → field (took names.Move (object_word (object_swapped old.view)) found (cond b (at_swap old.view (Moved (object_swapped old.view))) old.view)) ≡ field old.view
  in_both field true first second = first
  in_both field false first second = second

  stays : {X : Type 0} (field : PassView P O R → X) → field moved ≡ field old.view → field kept ≡ field old.view → field new.view ≡ field old.view
  stays field first second = ap field knows ∙ in_both field (eqb found (blocked_word old.view)) first second
