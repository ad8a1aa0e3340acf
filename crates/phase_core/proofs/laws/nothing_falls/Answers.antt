use Rattle.phase_core.proofs.Changed.{nothing_falls}
use Rattle.phase_core.proofs.laws.nothing_falls.Goals as goal

pub returns : goal.returns
returns g = λ s events. nothing_falls events s
