use Rattle.std.proofs.Common.{length}
use Rattle.k42_runtime.proofs.sections.+given_of.Given as goal

abbrev pub decreases-given_of : goal.decreases-given_of
decreases-given_of g l = length l.passes.now
