use Rattle.std.proofs.Common.{length}
use Rattle.k42_runtime.proofs.plan.+dead.Given as goal

abbrev pub decreases-dead : goal.decreases-dead
decreases-dead g l = length l.objects.now
