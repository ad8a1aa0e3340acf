use Rattle.phase_core.proofs.Kept.{event_keeps}
use Rattle.phase_core.proofs.Reached.{turn_there}
use Rattle.phase_core.proofs.laws.each_event_keeps.Goals as goal

pub returns : goal.returns
returns g = λ s event sound there. event_keeps s event sound (turn_there s sound _ there)
