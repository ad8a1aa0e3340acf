-- What a play tells of a seat alone, said as the row of its step says it.
use Rattle.std.proofs.Common.{◌≡◌, ℕ, List, [], ◌∷◌, get_or, set, sym, ap, ◌∙◌, subst}
use Rattle.atomic_table.specs.Table.{Step, Allows}
use Rattle.k42_stamp.specs.Layouts.{Layouts}
use Rattle.k42_joined.specs.Effects.{effect}
use Rattle.k42_joined.specs.Event.{Event}
use Rattle.k42_joined.specs.Possible.{IsPossible}
use Rattle.k42_board.specs.Cells.{Slot}
use Rattle.k42_board.specs.Rule.{Rule, Ruled}
use Rattle.k42_board.specs.Seen.{IsSeatOf}
use Rattle.k42_board.specs.Steps.{Seated, on_pass, Tells, TellsWith}
use Rattle.k42_board.specs.declared.view.PassView.{PassView}
use Rattle.k42_board.specs.declared.view.View.TheVariants.{Crew}
use Rattle.k42_board.proofs.Moves.{Moves, Finds, seat_allowed, seat_allowed_with}
use Rattle.k42_board.proofs.OnePass.{with_pass}

-- of this pass it tells the same
module _ {P O R : Type 0} (changed again : ℕ → PassView P O R → PassView P O R) {v : PassView P O R} (same : (found : ℕ) → changed found v ≡ again found v) where
  pub retold : (me after : Seated P O R) → IsSeatOf me v → (step : Step (Slot P O R)) (found : ℕ) → Tells again step me found after → Tells changed step me found after
  retold me after is step found told =
      told ∙ ap (λ (m : Seated P O R). (on_pass (again found) m.0, m.1)) is ∙ ap (λ w. (Crew (w ∷ []), [])) (sym (same found))
      ∙ sym (ap (λ (m : Seated P O R). (on_pass (changed found) m.0, m.1)) is)

  module _ {S L : Type 0} {F : Layouts S L P O R} {declared : List L} {event : Event L O R} {word : ℕ} {new : ℕ → ℕ} {id : ℕ}
      (moves : Moves F declared event word new changed id v) where
    moves_again : Moves F declared event word new again id v
    moves_again = record {
      from = λ table r at.
          subst (λ w.
          (after : Rule F declared (with_pass table (set table.words word (new (get_or table.words word 0))) table.homes id w))
          × (after.state ≡ effect r.state event) × IsPossible F declared r.state event)
          (same (get_or table.words word 0)) (moves.from table r at);
    }

    -- at the word that the step names
    pub retold_allowed : {callers : ℕ} (me : Seated P O R) → IsSeatOf me v → (at : ℕ) → at ≡ word → (slots : ℕ) (step : Step (Slot P O R))
        → Allows (Ruled F declared callers) slots id me at new (Tells again step me)
    retold_allowed {callers} me is at there slots step =
        subst (λ z. Allows (Ruled F declared callers) slots id me z new (Tells again step me)) (sym there) (seat_allowed moves_again me is slots step)

    pub retold_allowed_with : (Facts : PassView P O R → ℕ → Type 0) → Finds F declared word Facts id v → {callers : ℕ} (me : Seated P O R) → IsSeatOf me v
        → (at : ℕ) → at ≡ word → (slots : ℕ) (step : Step (Slot P O R))
        → Allows (Ruled F declared callers) slots id me at new (TellsWith again Facts step me)
    retold_allowed_with Facts finds {callers} me is at there slots step =
        subst (λ z. Allows (Ruled F declared callers) slots id me z new (TellsWith again Facts step me)) (sym there)
        (seat_allowed_with moves_again Facts finds me is slots step)
