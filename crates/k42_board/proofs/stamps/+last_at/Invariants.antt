use Rattle.std.proofs.Common.{length}
use Rattle.k42_board.proofs.stamps.+last_at.Given as goal

abbrev pub decreases-last_at : goal.decreases-last_at
decreases-last_at g l = length l.cells.now
