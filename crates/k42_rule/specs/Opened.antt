-- The table of a system that has just started.
use Rattle.std.specs.Prelude.{◌≡◌, ℕ, List, length}
use Rattle.atomic_table.specs.Table.{opening}
use Rattle.k42_stamp.specs.Layouts.{Layouts}
use Rattle.k42_joined.specs.Fresh.{fresh}
use Rattle.k42_board.specs.Cells.{Slot}
use Rattle.k42_board.specs.Rule.{Ruled}
use Rattle.k42_board.specs.Starting.{AreFirstWords, AreFirstSlots}
use Rattle.k42_board.specs.Views.{first_view}
use Rattle.k42_board.specs.Words.{many_slots}

-- it was opened with these words and slots, where no cell has a part, and shows the new state
pub record IsOpened {S L P O R : Type 0} (F : Layouts S L P O R) (declared : List L) (callers : List ℕ) : Type 0 where
  pub words : List ℕ
  pub slots : List (Slot P O R)
  pub told : AreFirstWords F.tag_of declared (length declared) words
  pub many : length slots ≡ many_slots
  pub filled : AreFirstSlots slots
  pub ruled : Ruled F declared (length callers) (opening words slots (first_view F.shapes_of F.procs declared callers))
  pub new : ruled.rule.state ≡ fresh F declared callers
