use Rattle.std.proofs.Common.{length}
use Rattle.k42_rule.proofs.finish.+give_logs.Given as goal

abbrev pub decreases-give_logs : goal.decreases-give_logs
decreases-give_logs g l = length l.passes.now
