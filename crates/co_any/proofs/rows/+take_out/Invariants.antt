use Rattle.std.proofs.Common.{length}
use Rattle.co_any.proofs.rows.+take_out.Given as goal

abbrev pub decreases-take_out : goal.decreases-take_out
decreases-take_out g l = length l.parts.now
