use Rattle.gen_core.proofs.Reached.{counts_agree}
use Rattle.gen_core.proofs.laws.counts_agree.Goals as goal

pub returns : goal.returns
returns c = counts_agree
