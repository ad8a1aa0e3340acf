use Rattle.std.proofs.Common.{length}
use Rattle.k42_handles.proofs.missing.+is_there.Given as goal

abbrev pub decreases-is_there : goal.decreases-is_there
decreases-is_there l = length l.passes.now
