use Rattle.phase_core.proofs.InSound.{one_swap}
use Rattle.phase_core.proofs.laws.one_swap.Goals as goal

pub returns : goal.returns
returns g = λ s o sound. one_swap s sound o
