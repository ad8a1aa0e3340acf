use Rattle.std.proofs.Common.{length}
use Rattle.k42_bench.proofs.bench.told_by.Given as goal

abbrev pub decreases-loop-entry : goal.decreases-loop-entry
decreases-loop-entry l = length l.reader
