-- A knock at the mediator.
use Rattle.std.specs.Prelude.{◌≡◌, ℕ, Bool, true, false, List}
use Rattle.k42_stamp.specs.Layouts.{Layouts}
use Rattle.k42_board.specs.Log.{took}
use Rattle.k42_board.specs.Protocol as protocol
use Rattle.k42_board.specs.Stepping.{Takes}
use Rattle.k42_board.specs.Tabling.{ended_view, knocked_view}
use Rattle.k42_board.specs.Values.{has_bit}
use Rattle.k42_board.specs.Words.{object_word}
use Rattle.k42_board.specs.declared.view.PassView.{PassView}
use Rattle.k42_board.specs.declared.view.StepName.TheVariants as steps
use Rattle.k42_mediator.specs.Answers.{knocked_in}
use Rattle.k42_mediator.specs.declared.answers.Knocked.{Knocked}

-- the pass that has knocked, and found this word
abbrev pub at_mediator : {P O R : Type 0} → ℕ → ℕ → PassView P O R → PassView P O R
at_mediator o found v = took steps.Knock (object_word o) found (knocked_view o found v)

-- it is inside the row; or, where the swap blocks, it has stepped out again
abbrev pub GoesThrough : {P O R : Type 0} → ℕ → ℕ → Bool → PassView P O R → PassView P O R → Type 0
GoesThrough o found false old new = new ≡ at_mediator o found old
GoesThrough o found true old new =
    (left : ℕ) × (new ≡ took steps.StepOut (object_word o) left (ended_view (at_mediator o found old)))

-- The word that the knock found decides.
pub record IsKnock
    {S L P O R : Type 0} (F : Layouts S L P O R) (declared : List L) (id o : ℕ) (old new : PassView P O R) (answer : Knocked)
    : Type 0 where
  pub found : ℕ
  pub knocked : Takes F declared (protocol.knock o) id old found (at_mediator o found old)
  pub through : GoesThrough o found (has_bit found 25) old new
  pub answer_is : answer ≡ knocked_in found
