use Rattle.phase_core.proofs.Reached.{turn_there}
use Rattle.phase_core.proofs.Others.{reads_by}
use Rattle.phase_core.proofs.laws.reads_by_look_up_and_knock.Goals as goal

pub returns : goal.returns
returns g = λ s event c o i sound there. reads_by s event c o i sound (turn_there s sound _ there)
