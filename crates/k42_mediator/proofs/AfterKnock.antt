-- What a pass knows after its knock.
use Rattle.std.proofs.Common.{◌≡◌, ℕ, true, false, cond, List, sym, ap, ◌∙◌, subst}
use Rattle.phase_core.specs.Effects.{knocked}
use Rattle.phase_core.specs.Stages.{object_of}
use Rattle.k42_stamp.specs.Layouts.{Layouts}
use Rattle.k42_board.specs.Log.{took}
use Rattle.k42_board.specs.Protocol as protocol
use Rattle.k42_board.specs.Stepping.{Takes}
use Rattle.k42_board.specs.Tabling.{ended_view}
use Rattle.k42_board.specs.Values.{has_bit, incarnation_in}
use Rattle.k42_board.specs.Words.{object_word}
use Rattle.k42_board.specs.declared.view.PassView.{PassView}
use Rattle.k42_board.specs.declared.view.StepName.TheVariants as steps
use Rattle.k42_mediator.specs.Knocks.{at_mediator, GoesThrough, IsKnock}
use Rattle.k42_mediator.specs.declared.answers.Knocked.TheVariants.{Admitted, Blocked}

module _ {S L P O R : Type 0} (F : Layouts S L P O R) (declared : List L) (id o found : ℕ) (old mid : PassView P O R)
    (takes : Takes F declared (protocol.knock o) id old found mid) where
  told : Takes F declared (protocol.knock o) id old found (at_mediator o found old)
  told = subst (λ (w : PassView _ O R). Takes F declared (protocol.knock o) id old found w) takes.knows takes

  pub let_in : (row : ℕ) → row ≡ incarnation_in found → has_bit found 25 ≡ false → IsKnock F declared id o old mid (Admitted row)
  let_in row is open' = record {
    found = found;
    knocked = told;
    through = subst (λ b. GoesThrough o found b old mid) (sym open') takes.knows;
    answer_is = ap Admitted is ∙ ap (λ b. cond b Blocked (Admitted (incarnation_in found))) (sym open');
  }

  -- a blocked caller steps out of the row of the object at which it knocked
  pub kept_out : (left : ℕ) (new : PassView P O R) → has_bit found 25 ≡ true
      → new ≡ took steps.StepOut (object_word (object_of mid.visitor.place)) left (ended_view mid)
      → IsKnock F declared id o old new Blocked
  kept_out left new closed out =
      let at : object_of mid.visitor.place ≡ o =
      ap (λ (w : PassView _ O R). object_of w.visitor.place) takes.knows
      ∙ ap (λ b. object_of (knocked old.visitor o (incarnation_in found) b).place) closed in
      record {
        found = found;
        knocked = told;
        through =
            subst (λ b. GoesThrough o found b old new) (sym closed)
            (left, out ∙ (λ i. took steps.StepOut (object_word (at i)) left (ended_view (takes.knows i))));
        answer_is = ap (λ b. cond b Blocked (Admitted (incarnation_in found))) (sym closed);
      }
