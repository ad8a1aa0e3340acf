use Rattle.std.proofs.Common.{length}
use Rattle.k42_journal.proofs.journal.+total_of.Given as goal

abbrev pub decreases-total_of : goal.decreases-total_of
decreases-total_of g l = length l.logs.now
