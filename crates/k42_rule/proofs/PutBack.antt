-- What a pass has noted of a cell it may put back.
use Rattle.std.proofs.Common.{◌≡◌, ℕ, ◌<◌, true, List, refl, ◌∙◌}
use Rattle.std.proofs.lemmas.Bool.{eq-eqb}
use Rattle.turn_core.specs.Names.{names}
use Rattle.k42_stamp.specs.Layouts.{Layouts}
use Rattle.k42_board.specs.Cells.{cells_noted}
use Rattle.k42_board.specs.Drawing.{part_noted, history_noted, closed_noted}
use Rattle.k42_board.specs.Parts.{IsPart}
use Rattle.k42_board.specs.Seats.{told_by}
use Rattle.k42_board.specs.Steps.{Always}
use Rattle.k42_board.specs.Taking.{CELLS, MayPut, taken_view}
use Rattle.k42_board.specs.declared.cell.Content.{Content}
use Rattle.k42_board.specs.declared.view.Note.{Note}
use Rattle.k42_board.specs.declared.view.PassView.{PassView}
use Rattle.k42_board.proofs.CellsApart.{first_noted}
use Rattle.k42_rule.proofs.PartsDue.{first_note}

-- the notes tell of the cell what its seat tells
pub record AgreesWithNotes {P O R : Type 0} (notes : List (Note P O R)) (content : Content P O R) : Type 0 where
  pub noted : names (cells_noted notes) content.number ≡ true
  pub history : (told_by content.badge.views).history ≡ history_noted notes content.number
  pub closed : (told_by content.badge.views).closed ≡ closed_noted notes content.number

-- so it is with a cell that was just taken
pub taken_agrees : {P O R : Type 0} (content : Content P O R) (v : PassView P O R) → AgreesWithNotes (taken_view content v).notes content
taken_agrees content v =
    let same = eq-eqb content.number content.number refl in
    record {
      noted = first_noted content.number content.number (cells_noted v.notes) refl;
      history = rw same refl;
      closed = rw same refl;
    }

pub taken_part : {P O R : Type 0} (content : Content P O R) (v : PassView P O R) → part_noted (taken_view content v).notes content.number ≡ content.part
taken_part content v = let same = eq-eqb content.number content.number refl in rw same refl

pub may_put : {S L P O R : Type 0} (F : Layouts S L P O R) (declared : List L) (id n : ℕ) (v : PassView P O R) (content : Content P O R) → content.number ≡ n → n < CELLS
    → AgreesWithNotes v.notes content → Always F declared id v (λ s. IsPart F declared s n content.part) → MayPut F declared id n content v
may_put F declared id n v content number few is part =
    let first = first_note v.notes content.number is.noted in
    record {
      cell = few;
      place = first.place;
      note = first.note;
      noted = first.there;
      named = first.named ∙ number;
      whole = record {
        number = number;
        told = λ k. record { history = (is.history ∙ first.history) k; closed = (is.closed ∙ first.closed) k };
        part = refl;
      };
      part = part;
    }
