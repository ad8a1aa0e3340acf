use Rattle.gen_core.proofs.Holding.{quiet_means_present}
use Rattle.gen_core.proofs.laws.quiet_means_present.Goals as goal

pub returns : goal.returns
returns c = quiet_means_present
