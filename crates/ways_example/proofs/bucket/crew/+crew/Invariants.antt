use Rattle.std.proofs.Common.{◌+◌, ◌*◌, length}
use Rattle.ways_example.proofs.bucket.crew.+crew.Given as goal

abbrev pub decreases-work_all : goal.decreases-work_all
decreases-work_all g l = 3 * length l.passes.now

abbrev pub decreases-work_both : goal.decreases-work_both
decreases-work_both g l = 3 * length l.others.now + 2

abbrev pub decreases-work_both-rest : goal.decreases-work_both-rest
decreases-work_both-rest g l = 3 * length l.others.now + 1
