use Rattle.std.proofs.Common.{length}
use Rattle.k42_rule.proofs.sections.+give_rests.Given as goal

abbrev pub decreases-give_rests : goal.decreases-give_rests
decreases-give_rests g l = length l.passes.now
