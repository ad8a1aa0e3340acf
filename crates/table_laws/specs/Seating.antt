-- What a table is after a seat was split or took in another, and that it shows the state that it showed.
use Rattle.std.specs.Prelude.{◌≡◌, ◌≢◌, ℕ, List, [], ◌∷◌, ◌++◌, slice_set}
use mathlib.Core.Option.{some}
use lib.ListN.{get_elem?}
use Rattle.atomic_table.specs.Table.{State}
use Rattle.k42_stamp.specs.Layouts.{Layouts}
use Rattle.k42_joined.specs.Effects.{effect}
use Rattle.k42_joined.specs.Event.{Event}
use Rattle.k42_joined.specs.Possible.{IsPossible}
use Rattle.k42_board.specs.Cells.{Slot}
use Rattle.k42_board.specs.Rule.{Rule}
use Rattle.k42_board.specs.declared.view.View.{View}
use Rattle.k42_board.specs.declared.view.View.TheVariants.{Spent}
use Rattle.k42_rule.specs.Laws.{KeepsFreed}

-- the seat goes on with the first view, and a new seat, the last, has the second
abbrev pub after_split : {S V : Type 0} → State S V → ℕ → V → V → State S V
after_split table id left right =
    record { words = table.words; homes = table.homes; views = slice_set table.views id left ++ right ∷ [] }

-- the seat has the view of both, and the other one is spent
abbrev pub after_join : {S V : Type 0} → State S V → ℕ → V → ℕ → V → State S V
after_join table id both other spent =
    record { words = table.words; homes = table.homes; views = slice_set (slice_set table.views id both) other spent }

module _ {S L P O R : Type 0} (F : Layouts S L P O R) (declared : List L) where
  -- The other table shows the same state, and so takes back of no row that it is freed.
  pub record ShowsStill {table : State (Slot P O R) (View P O R)} (r : Rule F declared table) (other : State (Slot P O R) (View P O R))
      : Type 0 where
    pub after : Rule F declared other
    pub state : after.state ≡ r.state
    pub freed : KeepsFreed r.state after.state

  -- Whatever state the table shows as the seat is split, it shows after;
  abbrev pub SplitStays : ℕ → View P O R → View P O R → View P O R → Type 0
  SplitStays id view left right =
      (table : State (Slot P O R) (View P O R)) (r : Rule F declared table)
      → get_elem? table.views id ≡ some view → ShowsStill r (after_split table id left right)

  -- and so as the seat takes in another.
  abbrev pub JoinStays : ℕ → View P O R → ℕ → View P O R → View P O R → Type 0
  JoinStays id view other taken both =
      (table : State (Slot P O R) (View P O R)) (r : Rule F declared table)
      → get_elem? table.views id ≡ some view → other ≢ id → get_elem? table.views other ≡ some taken
      → ShowsStill r (after_join table id both other Spent)

  -- The other table shows the state that is there after the event, which was possible.
  pub record ShowsEvent {table : State (Slot P O R) (View P O R)} (r : Rule F declared table) (event : Event L O R) (other : State (Slot P O R) (View P O R))
      : Type 0 where
    pub possible : IsPossible F declared r.state event
    pub after : Rule F declared other
    pub state : after.state ≡ effect r.state event

  -- Whatever state the table shows as the seat takes in another, that is this event.
  abbrev pub JoinIs : Event L O R → ℕ → View P O R → ℕ → View P O R → View P O R → Type 0
  JoinIs event id view other taken both =
      (table : State (Slot P O R) (View P O R)) (r : Rule F declared table)
      → get_elem? table.views id ≡ some view → other ≢ id → get_elem? table.views other ≡ some taken
      → ShowsEvent r event (after_join table id both other Spent)
