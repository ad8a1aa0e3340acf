-- The part of a cell, as the histories of its row give it.
use Rattle.std.specs.Prelude.{if◌then◌else◌, ◌≡◌, ℕ, ◌-◌, ◌<◌, ◌≤◌, ◌==◌, ⊤, List, Option, Some, None, length, option_map, slice_get}
use Rattle.k42_kinds.specs.Rows.{Ways}
use Rattle.k42_stamp.specs.Layouts.{Layouts}
use Rattle.k42_stamp.specs.Chains.{Chain, Row, part_of}
use Rattle.k42_joined.specs.Plain.{Joined}
use Rattle.k42_joined.specs.State.{object, cell, many_hands}
use Rattle.k42_joined.specs.Numbers.{object_of, place_of}
use Rattle.k42_joined.specs.Rows.{AreRowsOf}

-- the row of this number, of the rows of an object
abbrev pub row_in : {L P O R : Type 0} → Chain L P O R → ℕ → Option (Row L P O R)
row_in chain i =
    if i == length chain.past then Some chain.row
    else option_map (λ turn. turn.row) (slice_get chain.past (length chain.past - 1 - i))

-- A cell has the part that is due; a missing part stands for the empty one, and where none is due it has none.
abbrev pub HasDue : {S P O R : Type 0} → Ways S P O R → ℕ → ℕ → Option P → Option P → Type 0
HasDue ways procs place (Some own) (Some due) = own ≡ due
HasDue ways procs place None (Some due) = due ≡ ways.empty procs place
HasDue ways procs place None None = ⊤
HasDue ways procs place (Some own) None = ⊥

-- the part of a cell, in a state of the joined machine
pub record IsPart
    {S L P O R : Type 0} (F : Layouts S L P O R) (declared : List L) (s : Joined L O R) (n : ℕ) (part : Option P)
    : Type 0 where
  -- as long as its row is not freed, the part is that of the row
  pub due :
      (declaration : L) (chain : Chain L P O R) (row : Row L P O R) → slice_get declared (object_of n) ≡ Some declaration
      → AreRowsOf F declaration s (object_of n) chain → row_in chain (cell s n).life ≡ Some row
      → (object s (object_of n)).freed ≤ (cell s n).life
      → HasDue (F.ways_of row.layout) F.procs (place_of n) part (part_of F row (place_of n))
  -- before its row begins there is none
  pub before : many_hands s (object_of n) < (cell s n).life → part ≡ None
