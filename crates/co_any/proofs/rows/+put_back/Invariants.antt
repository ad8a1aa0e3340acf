use Rattle.std.proofs.Common.{length}
use Rattle.co_any.proofs.rows.+put_back.Given as goal

abbrev pub decreases-put_back : goal.decreases-put_back
decreases-put_back g l = length l.parts.now
