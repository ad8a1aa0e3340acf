-- Cells that a pass has taken, and gives back.
use Rattle.std.specs.Prelude.{◌≡◌, ℕ, ◌<◌, true, not, List, None}
use Rattle.std.specs.List.{filter}
use Rattle.k42_places.specs.Places.{EachPlace}
use Rattle.turn_core.specs.Names.{names}
use Rattle.k42_stamp.specs.Layouts.{Layouts}
use Rattle.k42_board.specs.Cells.{cells_noted}
use Rattle.k42_board.specs.Drawing.{IsHeld, part_noted}
use Rattle.k42_board.specs.Parts.{IsPart}
use Rattle.k42_board.specs.Steps.{Always}
use Rattle.k42_board.specs.Taking.{CELLS}
use Rattle.k42_board.specs.declared.cell.Content.{Content}
use Rattle.k42_board.specs.declared.view.Note.{Note}
use Rattle.k42_board.specs.declared.view.PassView.{PassView}

abbrev pub without_all : {P O R : Type 0} → List ℕ → List (Note P O R) → List (Note P O R)
without_all cells notes = filter (λ note. not (names cells note.cell)) notes

-- the pass once it has given back these cells
abbrev pub released : {P O R : Type 0} → List ℕ → PassView P O R → PassView P O R
released cells v = record v {
  taker = record v.taker { held = filter (λ n. not (names cells n)) v.taker.held };
  notes = without_all cells v.notes;
  out = None;
}

-- the pass has noted the cell, with its part
pub record IsTaken {P O R : Type 0} (notes : List (Note P O R)) (content : Content P O R) : Type 0 where
  pub held : IsHeld notes content
  pub part : content.part ≡ part_noted notes content.number

abbrev pub AreTaken : {P O R : Type 0} → List (Note P O R) → List (Content P O R) → Type 0
AreTaken notes contents = EachPlace (λ place content. IsTaken notes content) contents

-- what decides which parts are due is the same for both
pub record IsAlike {P O R : Type 0} (v w : PassView P O R) : Type 0 where
  pub visitor : w.visitor ≡ v.visitor
  pub last : w.last ≡ v.last
  pub handed : w.handed ≡ v.handed

module _ {S L P O R : Type 0} (F : Layouts S L P O R) (declared : List L) where
  -- whatever else the pass gives back first, it may put the cell back with the part that this has now
  pub record MayPutBack (id : ℕ) (v : PassView P O R) (content : Content P O R) : Type 0 where
    pub cell : content.number < CELLS
    pub holds : names v.taker.held content.number ≡ true
    pub held : IsHeld v.notes content
    pub due :
        (w : PassView P O R) → IsAlike v w → names (cells_noted w.notes) content.number ≡ true
        → part_noted w.notes content.number ≡ part_noted v.notes content.number
        → Always F declared id w (λ s. IsPart F declared s content.number content.part)

  abbrev pub MayPutAllBack : ℕ → PassView P O R → List (Content P O R) → Type 0
  MayPutAllBack id v contents = EachPlace (λ place content. MayPutBack id v content) contents
