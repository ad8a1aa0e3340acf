use Rattle.phase_core.proofs.Reached.{turn_there, moving_alone}
use Rattle.phase_core.proofs.laws.moves_alone.Goals as goal

pub returns : goal.returns
returns g = λ s c o i sound there named moving. moving_alone s c o sound (turn_there s sound c there) named moving i
