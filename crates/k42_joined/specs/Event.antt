-- The joined events.
use Rattle.std.specs.Prelude.{ℕ, List}
use Rattle.k42_kinds.specs.declared.entry.Entry.{Entry}
use Rattle.phase_core.specs.Event as phases
use Rattle.turn_core.specs.Events as turns
use Rattle.turn_core.specs.declared.event.TurnEvent.{TurnEvent}

pub data Event (L O R : Type 0) : Type 0 where
  -- an event of tables and swaps
  AtPhases : phases.Event → Event L O R
  -- an event of cells; a Hand is `HandWith`
  AtCells : TurnEvent O R → Event L O R
  -- a caller closes the first cells, begins a life of the others, and draws the entry, for this layout
  HandWith : ℕ → List ℕ → List ℕ → L → Entry O R → Event L O R

-- the caller of an event
abbrev pub caller_of : {L O R : Type 0} → Event L O R → ℕ
caller_of (AtPhases event) = phases.caller_of event
caller_of (AtCells event) = turns.caller_of event
caller_of (HandWith c from onto layout entry) = c
