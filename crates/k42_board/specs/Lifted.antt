-- A seat that has the slot of a cell out while its pass goes on: it lifts the cell, draws at it and puts it back, and the
-- cell is not moved.
use Rattle.std.specs.Prelude.{◌≡◌, ℕ, ◌<◌, List, [], ◌∷◌, Some, None, IsSomeAnd}
use Rattle.atomic_table.specs.Seated.{TableId}
use Rattle.atomic_table.specs.Table.{Step, carried_after}
use Rattle.atomic_table.specs.declared.shared.Seat.{Seat}
use Rattle.k42_stamp.specs.Laws.{AreLaws}
use Rattle.k42_board.specs.Cells.{Slot}
use Rattle.k42_board.specs.Plan.{LayoutWords}
use Rattle.k42_board.specs.Steps.{Seated}
use Rattle.k42_board.specs.Stepping.{WordStep, SlotStep, Takes, Moves, layouts_by}
use Rattle.k42_board.specs.Taking.{CELLS, Lifts}
use Rattle.k42_board.specs.Views.{pass_in}
use Rattle.k42_board.specs.Words.{many_words, slot_of}
use Rattle.k42_board.specs.declared.cell.Content.{Content}
use Rattle.k42_board.specs.declared.setup.Setup.{Setup}
use Rattle.k42_board.specs.declared.view.PassView.{PassView}
use Rattle.k42_board.specs.declared.view.View.{View}
use Rattle.k42_board.specs.declared.view.View.TheVariants.{Crew}

-- the seat has just this pass, and these slots are out with it
abbrev pub IsSeatWith : {P O R : Type 0} → List (ℕ × Slot P O R) → Seated P O R → PassView P O R → Type 0
IsSeatWith slots me v = me ≡ (Crew (v ∷ []), slots)

-- what is in the slot that a seat took last
abbrev pub slot_in : {P O R : Type 0} → List (ℕ × Slot P O R) → Slot P O R
slot_in [] = None
slot_in (carried ∷ others) = carried.1

-- the cell in a slot, as a list
abbrev pub cell_listed : {P O R : Type 0} → Slot P O R → List (Content P O R)
cell_listed None = []
cell_listed (Some content) = content ∷ []

-- the slot had a cell and has one, and this is so of the two
abbrev pub StaysFull : {P O R : Type 0} → (Content P O R → Content P O R → Type 0) → Slot P O R → Slot P O R → Type 0
StaysFull IsSo (Some old) (Some new) = IsSo old new
StaysFull IsSo (Some old) None = ⊥
StaysFull IsSo None new = ⊥

-- what a load that lifts a cell tells, and what the pass knows then
abbrev pub LiftsKnown : {P O R : Type 0} → (PassView P O R → Type 0) → Step (Slot P O R) → Seated P O R → ℕ → Seated P O R → Type 0
LiftsKnown Known step me found after = Lifts step me found after × Known (pass_in after.0)

-- The seat is of this table, whose layouts are lawful, and has one pass alone; the slot of this cell is out with it, with
-- the cell in it.
pub record HoldsSlot
    {S L P O R : Type 0} (words : LayoutWords S L P O R) (table : TableId) (key : Setup L) (n : ℕ) (seat : Seat (Slot P O R) (View P O R))
    : Type 0 where
  pub ours : seat.table_id ≡ table
  pub many : table.words ≡ many_words
  pub laws : AreLaws (layouts_by words key)
  pub cell : n < CELLS
  pub alone : IsSeatWith ((slot_of n, slot_in seat.me.1) ∷ []) seat.me (pass_in seat.me.0)
  pub out : (pass_in seat.me.0).out ≡ Some n
  pub full : IsSomeAnd (slot_in seat.me.1) (λ content. content.number ≡ n)

-- It has taken a step on a word, is the same seat, and has the slots that it had.
pub record HasTakenWith
    {S L P O R : Type 0} (words : LayoutWords S L P O R) (key : Setup L)
    (step : PassView P O R → WordStep S L P O R) (old : Seat (Slot P O R) (View P O R)) (found : ℕ) (new : Seat (Slot P O R) (View P O R))
    : Type 0 where
  pub table : new.table_id ≡ old.table_id
  pub seat : new.id ≡ old.id
  pub alone : IsSeatWith old.me.1 new.me ((step (pass_in old.me.0)).after found)
  pub takes :
      Takes (layouts_by words key) key.layouts.items step old.id (pass_in old.me.0) found (pass_in new.me.0)

-- It has moved a slot, and is the same seat.
pub record HasMovedOnce
    {S L P O R : Type 0} (words : LayoutWords S L P O R) (key : Setup L)
    (step : PassView P O R → SlotStep L P O R) (old new : Seat (Slot P O R) (View P O R))
    : Type 0 where
  pub table : new.table_id ≡ old.table_id
  pub seat : new.id ≡ old.id
  pub alone :
      IsSeatWith (carried_after (step (pass_in old.me.0)).carried (step (pass_in old.me.0)).act) new.me
      (step (pass_in old.me.0)).after
  pub moved : Moves (layouts_by words key) key.layouts.items step old.id (pass_in old.me.0) (pass_in new.me.0)
