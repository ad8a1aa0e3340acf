use Rattle.gen_core.proofs.Ended.{quiet_means_ended}
use Rattle.gen_core.proofs.laws.quiet_means_ended.Goals as goal

pub returns : goal.returns
returns c = quiet_means_ended
