-- A pass that has drawn an entry, once the cells were told of it.
use Rattle.std.proofs.Common.{◌≡◌, ℕ, List, [], sym, ap, ◌∙◌, subst}
use Rattle.k42_stamp.specs.Layouts.{Layouts}
use Rattle.k42_board.specs.Drawing.{untold_view}
use Rattle.k42_board.specs.Seen.{IsSeatOf}
use Rattle.k42_board.specs.Stepping.{WordStep, Takes}
use Rattle.k42_board.specs.Steps.{Seated}
use Rattle.k42_board.specs.Views.{pass_in}
use Rattle.k42_board.specs.declared.view.PassView.{PassView}

module _ {P O R : Type 0} (w : PassView P O R) (me seated : Seated P O R) (is : IsSeatOf me w) (told : IsSeatOf seated (untold_view [] (pass_in me.0))) where
  pub knows_drawn : pass_in seated.0 ≡ untold_view [] w
  knows_drawn = ap (λ (m : Seated P O R). pass_in m.0) told ∙ ap (λ (m : Seated P O R). untold_view [] (pass_in m.0)) is

  -- before they were told it was the pass that has taken the step
  pub takes_drawn : {S L : Type 0} {F : Layouts S L P O R} {declared : List L} {step : PassView P O R → WordStep S L P O R} {id : ℕ} {v : PassView P O R}
      (cells : List ℕ) → w.untold ≡ cells → (found : ℕ) → Takes F declared step id v found (pass_in me.0)
      → Takes F declared step id v found (untold_view cells (pass_in seated.0))
  takes_drawn {F = F} {declared = declared} {step = step} {id = id} {v = v} cells due found = subst (Takes F declared step id v found) (sym back) where
    back : untold_view cells (pass_in seated.0) ≡ pass_in me.0
    back =
        ap (untold_view cells) knows_drawn ∙ ap (λ ns. untold_view ns w) (sym due)
        ∙ sym (ap (λ (m : Seated P O R). pass_in m.0) is)
