-- The queue of retired rows: each row's pops so far and its places in the queue are together as many as its pushes.
use Rattle.std.specs.Prelude.{◌≡◌, ℕ, ◌+◌, ◌-◌, ◌*◌, ◌≤◌, ◌==◌, ◌&&◌, Bool, true, false, List, [], ◌∷◌, ◌++◌, count_by, get_or, sum_by, length, min, take}
use mathlib.Core.Option.{some}
use lib.ListN.{get_elem?}
use Rattle.atomic_table.specs.Seated.{TableId}
use Rattle.k42_limits.specs.declared.TheConstants.{LAST_INCARNATION, OBJECTS}
use Rattle.k42_places.specs.Places.{EachPlace}
use Rattle.k42_board.specs.Phases.{IsGranted}
use Rattle.k42_board.specs.Seen.{PassSeen}
use Rattle.k42_board.specs.Views.{pass_in}
use Rattle.k42_board.specs.Steps.{on_pass}
use Rattle.k42_board.specs.declared.retired.Carried.{Carried}
use Rattle.k42_board.specs.declared.retired.Slip.{Slip}
use Rattle.k42_board.specs.declared.retired.TableName.{TableName}
use Rattle.k42_board.specs.declared.view.PassView.{PassView}
use Rattle.k42_board.specs.declared.view.Row.{Row}
use Rattle.k42_board.specs.declared.view.View.{View}
use Rattle.k42_board.specs.declared.view.View.TheVariants.{Named}

-- a table by its name
abbrev pub name_of : TableId → TableName
name_of table = record {
  words = table.words;
  slots = table.slots;
  views_name = table.views_name;
  atom = table.atom;
  block = table.block;
  offset = table.offset;
  slot_names = table.slot_names;
}

abbrev pub table_of : Carried → TableId
table_of v = record {
  words = v.table.words;
  slots = v.table.slots;
  views_name = v.table.views_name;
  atom = v.table.atom;
  block = v.table.block;
  offset = v.table.offset;
  slot_names = v.table.slot_names;
}

abbrev pub is_row : Row → Row → Bool
is_row row other = (other.object == row.object) && (other.incarnation == row.incarnation)

-- how often a row stands in a list
abbrev pub times : Row → List Row → ℕ
times row rows = count_by (is_row row) rows

abbrev pub pushes_of : Row → List Carried → ℕ
pushes_of row views = sum_by (λ v. times row v.pushed) views

abbrev pub pops_of : Row → List Carried → ℕ
pops_of row views = sum_by (λ v. times row v.popped) views

-- its places in the queue
abbrev pub places_of : {P O R : Type 0} → Row → List (Slip P O R) → ℕ
places_of row items = count_by (λ x. is_row row x.row) items

-- a row with a seat of the table that names it
pub record IsRetired {P O R : Type 0} (table : TableId) (x : Slip P O R) : Type 0 where
  pub ours : x.seat.table_id ≡ table
  pub named : x.seat.me ≡ (Named x.row, [])

-- the rule of the queue
pub record Carries {P O R : Type 0} (items : List (Slip P O R)) (views : List Carried) : Type 0 where
  -- all rows are of one table, of which the passes know
  pub table : TableId
  pub items_are : EachPlace (λ place x. IsRetired table x) items
  pub tied : (i : ℕ) (v : Carried) → get_elem? views i ≡ some v → v.tied ≡ true → table_of v ≡ table
  -- but for the first pass, as long as it is the only one
  pub untied :
      (i : ℕ) (v : Carried) → get_elem? views i ≡ some v → v.tied ≡ false → (items ≡ []) × (views ≡ v ∷ [])
  pub counted : (row : Row) → pops_of row views + places_of row items ≡ pushes_of row views

abbrev pub carried_none : Bool → TableId → Carried
carried_none tied table = record { tied = tied; pushed = []; popped = []; table = name_of table }

-- of no table
abbrev pub no_table : TableId
no_table = record { words = 0; slots = 0; views_name = 0; atom = 0; block = 0; offset = 0; slot_names = [] }

-- a pass is tied to a table, and another begins so
abbrev pub tied_to : TableId → Carried → Carried
tied_to table v = record v { tied = true; table = name_of table }

abbrev pub fresh_carried : Carried → Carried
fresh_carried v = carried_none v.tied (table_of v)

-- what a push and a pop tell the pass

abbrev pub Pushed : {P O R : Type 0} → Carried → Slip P O R → Carried → Type 0
Pushed v x w = w ≡ record v { pushed = v.pushed ++ x.row ∷ [] }

abbrev pub Popped : {P O R : Type 0} → Carried → Slip P O R → Carried → Type 0
Popped v x w = IsRetired (table_of v) x × (w ≡ record v { popped = v.popped ++ x.row ∷ [] })

-- at one moment the queue had these items, and the pass this view
abbrev pub IsRuled : {P O R : Type 0} → Carried → List (Slip P O R) → Type 0
IsRuled v items = (views : List Carried) × (i : ℕ) × (get_elem? views i ≡ some v) × Carries items views

-- the pass knows that the queue's rows are of this table
abbrev pub IsTied : TableId → Carried → Type 0
IsTied table v = (v.tied ≡ true) × (table_of v ≡ table)

-- what becomes of the seats of a pass and of a row

abbrev pub newest : List Row → Row
newest rows = get_or rows (length rows - 1) (record { object = 0; incarnation = 0 })

abbrev pub older : List Row → List Row
older rows = take (length rows - 1) rows

-- of the rows that are left those are granted which were
abbrev pub without_newest : {P O R : Type 0} → PassView P O R → PassView P O R
without_newest v = record v { rows = older v.rows; granted = min v.granted (length (older v.rows)) }

-- the row is back, and so many more are granted
abbrev pub with_again : {P O R : Type 0} → Row → ℕ → PassView P O R → PassView P O R
with_again row more v = record v { rows = v.rows ++ row ∷ []; granted = v.granted + more }

abbrev pub with_newest : {P O R : Type 0} → Row → PassView P O R → PassView P O R
with_newest row v = record v { rows = v.rows ++ row ∷ [] }

abbrev pub row_named : {P O R : Type 0} → View P O R → Row
row_named (Named row) = row
row_named view = record { object = 0; incarnation = 0 }

abbrev pub keeps_older : {P O R : Type 0} → View P O R → View P O R
keeps_older view = on_pass without_newest view

abbrev pub names_newest : {P O R : Type 0} → View P O R → View P O R
names_newest view = Named (newest (pass_in view).rows)

abbrev pub takes_back : {P O R : Type 0} → ℕ → View P O R → View P O R → View P O R
takes_back more view named = on_pass (with_again (row_named named) more) view

abbrev pub takes_in : {P O R : Type 0} → View P O R → View P O R → View P O R
takes_in view named = on_pass (with_newest (row_named named)) view

-- the granted rows are below what the grace has noted
abbrev pub AreGranted : {P O R : Type 0} → PassView P O R → ℕ → Type 0
AreGranted v found = EachPlace (λ place row. IsGranted v.visitor.noted row) (take v.granted v.rows)

-- a pass holds each row once, and so not more than there are
abbrev pub MOST_ROWS : ℕ
MOST_ROWS = OBJECTS * LAST_INCARNATION

abbrev pub HoldsFew : {P O R : Type 0} → PassView P O R → ℕ → Type 0
HoldsFew v found = length v.rows ≤ MOST_ROWS

-- what a pass is after it has pushed its newest row, or popped one

pub record HasPushed {P O R : Type 0} (old new : PassSeen P O R) : Type 0 where
  pub table : new.table ≡ old.table
  pub seat : new.seat ≡ old.seat
  pub keep : new.keep ≡ old.keep
  pub knows : new.view ≡ without_newest old.view
  pub room : new.room ≡ old.room
  pub row_room : new.row_room ≡ old.row_room + 1
  pub queue : new.queue ≡ old.queue
  pub pushed : new.pushed ≡ old.pushed ++ newest old.view.rows ∷ []
  pub popped : new.popped ≡ old.popped

pub record HasPopped {P O R : Type 0} (old new : PassSeen P O R) : Type 0 where
  pub row : Row
  pub table : new.table ≡ old.table
  pub seat : new.seat ≡ old.seat
  pub keep : new.keep ≡ old.keep
  pub knows : new.view ≡ with_newest row old.view
  pub room : new.room ≡ old.room
  pub row_room : new.row_room + 1 ≡ old.row_room
  pub queue : new.queue ≡ old.queue
  pub pushed : new.pushed ≡ old.pushed
  pub popped : new.popped ≡ old.popped ++ row ∷ []
