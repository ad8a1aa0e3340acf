-- What an event's step promises.
use Rattle.std.specs.Prelude.{◌≡◌, Bool, true, false, Result, Ok, Err}
use Rattle.k42_memory.specs.declared.Memory.{Memory}
use Rattle.turn_core.specs.declared.event.TurnEvent.{TurnEvent}
use Rattle.turn_core.specs.Plain.{Turns}
use Rattle.turn_core.specs.Events.{is_possible, effect}

-- The event was applied: the answer is whether it is possible, and where it is, the state after it is its
-- effect; where it is not, and where there was no memory, the state is as before.
abbrev pub Applies : {O R : Type 0} → Result Bool Memory → Turns O R → Turns O R → TurnEvent O R → Type 0
Applies (Ok true) old new event = (is_possible old event ≡ true) × (new ≡ effect old event)
Applies (Ok false) old new event = (is_possible old event ≡ false) × (new ≡ old)
Applies (Err memory) old new event = new ≡ old
