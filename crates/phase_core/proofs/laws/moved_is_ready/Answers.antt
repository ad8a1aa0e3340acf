use Rattle.phase_core.proofs.InSound.{moved_is_ready}
use Rattle.phase_core.proofs.laws.moved_is_ready.Goals as goal

pub returns : goal.returns
returns g = λ s c o sound. moved_is_ready s sound c o
