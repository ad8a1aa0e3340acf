use Rattle.std.proofs.Common.{length}
use Rattle.k42_crews.proofs.crews.+are_in_order.Given as goal

abbrev pub decreases-are_in_order : goal.decreases-are_in_order
decreases-are_in_order g l = length l.passes.now
