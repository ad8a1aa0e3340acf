use Rattle.std.proofs.Common.{length}
use Rattle.k42_stamp.proofs.merging.+only_place.Given as goal

abbrev pub decreases-only_place : goal.decreases-only_place
decreases-only_place g l = length l.lists.now
