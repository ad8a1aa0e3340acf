-- Whether the counts of the code have room for an event.
use Rattle.gen_core.specs.declared.event.GenEvent.{GenEvent}
use Rattle.gen_core.specs.Room as turns
use Rattle.phase_core.specs.Event.{Event, Turn}
use Rattle.phase_core.specs.Plain.{Phases}

abbrev pub HasRoomToTurn : Phases → GenEvent → Type 0
HasRoomToTurn s event = turns.HasRoomFor s.turns event

-- only events of the generations need room
abbrev pub HasRoomFor : Phases → Event → Type 0
HasRoomFor s (Turn event) = HasRoomToTurn s event
HasRoomFor s _ = Unit {0}
