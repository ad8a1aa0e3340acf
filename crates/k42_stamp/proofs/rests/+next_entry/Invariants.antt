use Rattle.std.proofs.Common.{length}
use Rattle.k42_stamp.proofs.rests.+next_entry.Given as goal

abbrev pub decreases-next_entry : goal.decreases-next_entry
decreases-next_entry g l = length l.rests.now
