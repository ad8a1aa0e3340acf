-- The words of the locks, the slots, and what a pass knows of the cells that it has taken.
use Rattle.std.specs.Prelude.{◌≡◌, ℕ, ◌<◌, Bool, true, false, List, map, Option, Some, None, slice_index}
use mathlib.Core.Option.{none, some}
use mathlib.Core.Option as maybe
use lib.ListN.{get_elem?}
use Rattle.k42_places.specs.Places.{EachPlace}
use Rattle.k42_kinds.specs.declared.entry.Entry.{Entry}
use Rattle.turn_core.specs.Names.{names}
use Rattle.turn_core.specs.Plain.{Cell, Turns}
use Rattle.turn_core.specs.State.{cell_at, caller_at}
use Rattle.k42_joined.specs.Numbers.{place_of}
use Rattle.k42_board.specs.Words.{lock_word, slot_of}
use Rattle.k42_board.specs.Values.{holder_value}
use Rattle.k42_board.specs.declared.cell.Content as code
use Rattle.k42_board.specs.Seats.{told_by}
use Rattle.k42_board.specs.declared.view.Note.{Note}
use Rattle.k42_board.specs.declared.view.PassView.{PassView}

-- the cell of this number, whose seat tells this history
pub record IsCell
    {P O R : Type 0} (n : ℕ) (history : List (Entry O R)) (closed : Bool) (own : Option P)
    (c : code.Content P O R)
    : Type 0 where
  pub number : c.number ≡ n
  pub told : told_by c.badge.views ≡ record { history = history; closed = closed }
  pub part : c.part ≡ own

abbrev pub Slot : Type 0 → Type 0 → Type 0 → Type 0
Slot P O R = Option (code.Content P O R)

-- the slot has the cell while it is at home, and nothing while it is not; a slot that is out is with the holder
abbrev pub IsSlot :
    {P O R : Type 0} → ℕ → Cell O R → Option P → maybe.Option (Slot P O R) → Bool → Bool → Type 0
IsSlot {O} {R} n x part slot out true =
    (out ≡ false) × ((c : code.Content _ O R) × (slot ≡ some (Some c)) × IsCell n x.history x.closed part c)
IsSlot n x part slot true false = slot ≡ none
IsSlot n x part slot false false = slot ≡ some None

-- of each cell its part, and whether its slot is out
pub record Contents (P : Type 0) : Type 0 where
  pub part : ℕ → Option P
  pub out : ℕ → Bool

pub record IsCellShown
    {P O R : Type 0} (procs : ℕ) (words : List ℕ) (homes : List (maybe.Option (Slot P O R)))
    (contents : Contents P) (n : ℕ) (x : Cell O R)
    : Type 0 where
  pub lock : slice_index words (lock_word n) ≡ holder_value x.lock
  pub slot :
      place_of n < procs
      → (slot : maybe.Option (Slot P O R)) × (get_elem? homes (slot_of n) ≡ some slot)
      × IsSlot n x (contents.part n) slot (contents.out n) x.home

-- a cell that a pass has taken
pub record IsNoted {P O R : Type 0} (t : Turns O R) (contents : Contents P) (c : ℕ) (note : Note P O R) : Type 0 where
  pub held : (cell_at t note.cell).lock ≡ Some c
  pub away : (cell_at t note.cell).home ≡ false
  pub history : (cell_at t note.cell).history ≡ note.history
  pub closed : (cell_at t note.cell).closed ≡ note.closed
  pub part : contents.part note.cell ≡ note.part

-- the cell whose slot is out with the pass
pub record IsOut {P O R : Type 0} (t : Turns O R) (contents : Contents P) (c n : ℕ) : Type 0 where
  pub held : (cell_at t n).lock ≡ Some c
  pub away : (cell_at t n).home ≡ false
  pub out : contents.out n ≡ true

abbrev pub cells_noted : {P O R : Type 0} → List (Note P O R) → List ℕ
cells_noted notes = map (λ note. note.cell) notes

pub record KnowsCells {P O R : Type 0} (t : Turns O R) (contents : Contents P) (v : PassView P O R) : Type 0 where
  pub taker : caller_at t v.number ≡ v.taker
  pub notes : EachPlace (λ place note. IsNoted t contents v.number note) v.notes
  -- of each cell that it has taken there is a note
  pub noted :
      (n : ℕ) → (cell_at t n).lock ≡ Some v.number → (cell_at t n).home ≡ false → names (cells_noted v.notes) n ≡ true
  pub out : (n : ℕ) → v.out ≡ Some n → IsOut t contents v.number n
  -- no slot is out but with a pass that knows it
  pub only : (n : ℕ) → (cell_at t n).lock ≡ Some v.number → contents.out n ≡ true → v.out ≡ Some n
