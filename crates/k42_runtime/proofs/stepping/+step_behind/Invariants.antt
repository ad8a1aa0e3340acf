use Rattle.std.proofs.Common.{length}
use Rattle.k42_runtime.proofs.stepping.+step_behind.Given as goal

abbrev pub decreases-step_behind : goal.decreases-step_behind
decreases-step_behind g l = length l.cells.now
