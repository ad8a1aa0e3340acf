use Rattle.std.proofs.Common.{length}
use Rattle.k42_runtime.proofs.plan.+stray.Given as goal

abbrev pub decreases-stray : goal.decreases-stray
decreases-stray l = length l.homes.now
