-- What an event does to one caller and to one object.
use Rattle.std.specs.Prelude.{ℕ, Bool, List, Option, false, ◌&&◌, ◌==◌, if◌then◌else◌, [], ◌+◌, ◌-◌, true, ◌||◌, nat_lt, length, replicate}
use Rattle.k42_limits.specs.declared.TheConstants.{LAST_INCARNATION}
use Rattle.k42_shapes.specs.declared.shape.Shape.{Shape}
use Rattle.k42_shapes.specs.Shapes.{cell_called, is_dead_tag, shape_at}
use Rattle.gen_core.specs.declared.event.GenEvent.{GenEvent}
use Rattle.gen_core.specs.declared.event.GenEvent.TheVariants.{Leave, Look, GiveRole}
use Rattle.gen_core.specs.declared.state.GraceAt.{GraceAt}
use Rattle.gen_core.specs.declared.state.GraceAt.TheVariants.{Quiet}
use Rattle.phase_core.specs.Plain.{Object, Visitor}
use Rattle.phase_core.specs.State.{with_row}
use Rattle.phase_core.specs.declared.caller.Place.{Place}
use Rattle.phase_core.specs.declared.caller.Place.TheVariants.{Missed, Direct, AtMediator, Tracked, Blocked}
use Rattle.phase_core.specs.declared.caller.SwapAt.{SwapAt}
use Rattle.phase_core.specs.declared.caller.SwapAt.TheVariants.{Refused, Begun, Interposing, Interposed, Draining, Drained, Opening, Reopening, Opened}
use Rattle.phase_core.specs.declared.object.LocalEntry.{LocalEntry}

-- the cell that the root of a layout names for a processor, by the shapes of the object's live layouts
abbrev pub root_of : List Shape → ℕ → ℕ → ℕ
root_of shapes layout p = cell_called (shape_at shapes layout) p

abbrev pub at_place : Visitor → Place → Visitor
at_place x place = record x { place = place }

-- the place where a row was read
abbrev pub at_row : Visitor → ℕ → ℕ → Place → Visitor
at_row x o i place = record x { place = place; read = with_row x.read o i }

abbrev pub at_stage : Visitor → SwapAt → Visitor
at_stage x swap = record x { swap = swap }

-- where an entry of the tag leads
abbrev pub place_found : ℕ → ℕ → ℕ → Place
place_found tag o i = if tag == 0 then Missed o i else if tag == 1 then Direct o i else AtMediator o

abbrev pub looked_up : Visitor → ℕ → LocalEntry → Visitor
looked_up x o e = at_row x o e.incarnation (place_found e.tag o e.incarnation)

abbrev pub is_empty_at : LocalEntry → ℕ → Bool
is_empty_at e i = (e.tag == 0) && (e.incarnation == i)

-- an entry that leads to a cell of a row with the layout, and one that leads where its root does
abbrev pub entry_to : ℕ → ℕ → ℕ → LocalEntry
entry_to layout cell i = record { tag = 1; layout = layout; cell = cell; incarnation = i }

abbrev pub direct_entry : List Shape → ℕ → ℕ → ℕ → LocalEntry
direct_entry shapes layout p i = entry_to layout (root_of shapes layout p) i

abbrev pub knocked : Visitor → ℕ → ℕ → Bool → Visitor
knocked x o i true = at_place x (Blocked o)
knocked x o i false = at_row x o i (Tracked o i)

abbrev pub counted_in : Object → Object
counted_in k = record k { count = k.count + 1 }

abbrev pub counted_out : Object → Object
counted_out k = record k { count = k.count - 1 }

-- dead, or at its last incarnation
abbrev pub is_over : Object → Bool
is_over k = is_dead_tag k.shapes k.layout || (k.incarnation == LAST_INCARNATION)

abbrev pub begun_as : ℕ → Bool → SwapAt
begun_as o true = Refused o
begun_as o false = Begun o

-- the stage after the next of so many processors was interposed
abbrev pub after_interpose : ℕ → ℕ → ℕ → SwapAt
after_interpose o p procs = if nat_lt (p + 1) procs then Interposing o (p + 1) else Interposed o

abbrev pub after_open : ℕ → ℕ → ℕ → SwapAt
after_open o p procs = if nat_lt (p + 1) procs then Opening o (p + 1) else Opened o

abbrev pub after_reopen : ℕ → ℕ → ℕ → SwapAt
after_reopen o p procs = if nat_lt (p + 1) procs then Reopening o (p + 1) else Opened o

abbrev pub turned_over : Object → ℕ → Object
turned_over k layout = record k {
  incarnation = k.incarnation + 1;
  layout = layout;
  block = false;
  moving = false;
  complete = true;
}

abbrev pub unblocked : Object → Object
unblocked k = record k { block = false; moving = false }

abbrev pub cleared : Object → Object
cleared k = record k { swap = false; complete = false }

-- a drained object's swap, as its caller's grace becomes quiet
abbrev pub drained_at : GraceAt → SwapAt → SwapAt
drained_at Quiet (Draining o) = Drained o
drained_at grace swap = swap

-- what an event of generations does to its caller, whose grace is then so
abbrev pub visitor_turned : GenEvent → GraceAt → Visitor → Visitor
visitor_turned (Leave c) grace x = record x { read = [] }
visitor_turned (Look c) grace x = record x { swap = drained_at grace x.swap }
visitor_turned (GiveRole c) grace x = record x { freeing = replicate (length x.freeing) (0, 0) }
visitor_turned event grace x = x

abbrev pub draining_from : SwapAt → SwapAt
draining_from (Interposed o) = Draining o
draining_from swap = swap

abbrev pub role_taken_with : Visitor → List (Option ℕ) → Visitor
role_taken_with x notes = record x { noted = notes; swap = draining_from x.swap }
