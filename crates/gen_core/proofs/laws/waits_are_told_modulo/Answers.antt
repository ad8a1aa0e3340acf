use Rattle.gen_core.proofs.Modulo.{waits_are_told_modulo}
use Rattle.gen_core.proofs.laws.waits_are_told_modulo.Goals as goal

pub returns : goal.returns
returns c = waits_are_told_modulo
