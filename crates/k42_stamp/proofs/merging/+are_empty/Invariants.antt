use Rattle.std.proofs.Common.{length}
use Rattle.k42_stamp.proofs.merging.+are_empty.Given as goal

abbrev pub decreases-are_empty : goal.decreases-are_empty
decreases-are_empty g l = length l.lists.now
