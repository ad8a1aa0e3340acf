use Rattle.std.proofs.Common.{length}
use Rattle.k42_mediator.proofs.parts.+fill.Given as goal

abbrev pub decreases-fill : goal.decreases-fill
decreases-fill g l = length l.cells.now
