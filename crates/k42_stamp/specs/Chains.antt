-- The rows of an object, one after the other.
use Rattle.std.specs.Prelude.{ℕ, List, [], ◌∷◌, ◌++◌, Option}
use Rattle.k42_kinds.specs.declared.entry.Entry.{Entry}
use Rattle.k42_kinds.specs.Rows.{empty_row, part_at}
use Rattle.k42_stamp.specs.Replays.{replayed}
use Rattle.k42_stamp.specs.Layouts.{Layouts, shape_of}
use Rattle.k42_stamp.specs.Parts.{part_steps}

-- a row: its layout, the parts with which it began, and its entries in order, but for the one with which it began
pub record Row (L P O R : Type 0) : Type 0 where
  pub layout : L
  pub start : List P
  pub entries : List (Entry O R)

-- a row that was handed on, and the entry that tells so, with which the next row begins
pub record Turn (L P O R : Type 0) : Type 0 where
  pub row : Row L P O R
  pub done : Entry O R

-- an object's rows: those that were handed on, the newest of them first, and the one after them
pub record Chain (L P O R : Type 0) : Type 0 where
  pub past : List (Turn L P O R)
  pub row : Row L P O R

-- the parts of a row after its entries
abbrev pub parts_of : {S L P O R : Type 0} → Layouts S L P O R → Row L P O R → List P
parts_of F row = replayed (part_steps F row.layout) row.start row.entries

-- the part of a cell of the row; a cell beyond the row's parts has none
abbrev pub part_of : {S L P O R : Type 0} → Layouts S L P O R → Row L P O R → ℕ → Option P
part_of F row cell = part_at (parts_of F row) cell

-- the state for which they stand
abbrev pub state_of : {S L P O R : Type 0} → Layouts S L P O R → Row L P O R → S
state_of F row = (F.ways_of row.layout).combine (parts_of F row)

-- the parts with which a row of the layout begins after these
abbrev pub start_of : {S L P O R : Type 0} → Layouts S L P O R → List (Turn L P O R) → L → List P
start_of F [] layout = empty_row (F.ways_of layout) (shape_of F layout) F.procs
start_of F (turn ∷ past) layout =
    (F.ways_of layout).imported F.procs (F.admitted layout (state_of F turn.row))

-- the entry with which the row after these begins
abbrev pub first_of : {L P O R : Type 0} → List (Turn L P O R) → List (Entry O R)
first_of [] = []
first_of (turn ∷ past) = turn.done ∷ []

-- all entries of these rows, in order
abbrev pub past_entries : {L P O R : Type 0} → List (Turn L P O R) → List (Entry O R)
past_entries [] = []
past_entries (turn ∷ past) = past_entries past ++ (turn.row.entries ++ turn.done ∷ [])

abbrev pub entries_of : {L P O R : Type 0} → Chain L P O R → List (Entry O R)
entries_of chain = past_entries chain.past ++ chain.row.entries
