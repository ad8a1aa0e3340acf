-- The cell of a representative.
use Rattle.std.specs.Prelude.{◌≡◌, ℕ, ◌<◌, ◌++◌, Bool, List, Some, slice_get}
use Rattle.k42_shapes.specs.Shapes.{cells_of}
use Rattle.phase_core.specs.Stages.{IsInside}
use Rattle.k42_stamp.specs.Layouts.{Layouts, IsKnown, shape_of}
use Rattle.k42_joined.specs.Numbers.{cell_of}
use Rattle.k42_board.specs.Log.{steps_through}
use Rattle.k42_board.specs.Taking.{unlocked_view}
use Rattle.k42_board.specs.declared.view.PassView.{PassView}

-- the cell is at this place of the row that the pass is inside, and the row has this layout
pub record IsOfItsRow
    {S L P O R : Type 0} (F : Layouts S L P O R) (declared : List L) (n place : ℕ) (layout : L) (v : PassView P O R)
    : Type 0 where
  pub object : ℕ
  pub row : ℕ
  pub inside : IsInside v.visitor.place object row
  pub cell : n ≡ cell_of object row place
  pub declaration : L
  pub declares : slice_get declared object ≡ Some declaration
  pub kind : F.object_of layout ≡ F.object_of declaration
  pub learned : v.layout ≡ Some (F.tag_of layout)
  pub known : IsKnown F layout
  pub there : place < cells_of (shape_of F layout) F.procs
  pub few : place < F.procs

-- the pass that has left the cell again, with a part or without
abbrev pub handled_view : {P O R : Type 0} → ℕ → Bool → PassView P O R → PassView P O R
handled_view n full v = record (unlocked_view n v) { log = steps_through n full ++ v.log }
