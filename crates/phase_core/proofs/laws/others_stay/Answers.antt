use Rattle.phase_core.proofs.Reached.{turn_there}
use Rattle.phase_core.proofs.Others.{others_stay}
use Rattle.phase_core.proofs.laws.others_stay.Goals as goal

pub returns : goal.returns
returns g = λ s event sound there. others_stay s event sound (turn_there s sound _ there)
