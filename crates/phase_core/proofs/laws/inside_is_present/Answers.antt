use Rattle.phase_core.proofs.InSound.{inside_is_present}
use Rattle.phase_core.proofs.laws.inside_is_present.Goals as goal

pub returns : goal.returns
returns g = λ s c o i sound. inside_is_present s sound c o i
