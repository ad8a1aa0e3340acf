use Rattle.phase_core.proofs.InSound.{count_is}
use Rattle.phase_core.proofs.laws.count_is_of_callers.Goals as goal

pub returns : goal.returns
returns g = λ s o sound. count_is s sound o
