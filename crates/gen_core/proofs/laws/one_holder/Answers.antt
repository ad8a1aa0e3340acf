use Rattle.gen_core.proofs.Reached.{one_holder}
use Rattle.gen_core.proofs.laws.one_holder.Goals as goal

pub returns : goal.returns
returns c = one_holder
