use Rattle.std.proofs.Common.{◌+◌, ◌-◌, ◌*◌, length}
use Rattle.k42_workers.proofs.workers.+crew.Given as goal

abbrev pub decreases-work_all : goal.decreases-work_all
decreases-work_all g l = 3 * length l.workers.now

abbrev pub decreases-work_halves : goal.decreases-work_halves
decreases-work_halves g l = 3 * (length l.left.now + length l.right.now) - 1

abbrev pub decreases-work_halves-one : goal.decreases-work_halves-one
decreases-work_halves-one g l = 3 * length l.left.now + 1

abbrev pub decreases-work_halves-other : goal.decreases-work_halves-other
decreases-work_halves-other g l = 3 * length l.right.now + 1
