use Rattle.phase_core.proofs.Changed.{shapes_stay}
use Rattle.phase_core.proofs.laws.shapes_stay.Goals as goal

pub returns : goal.returns
returns g = shapes_stay
