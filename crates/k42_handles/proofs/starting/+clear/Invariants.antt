use Rattle.std.proofs.Common.{length}
use Rattle.k42_handles.proofs.starting.+clear.Given as goal

abbrev pub decreases-clear : goal.decreases-clear
decreases-clear l = length l.handles.now
