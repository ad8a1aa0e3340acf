use Rattle.std.proofs.Common.{length}
use Rattle.k42_rule.proofs.sections.+skip_on.Given as goal

abbrev pub decreases-skip_on : goal.decreases-skip_on
decreases-skip_on g l = length l.passes.now
