use Rattle.std.proofs.Common.{length}
use Rattle.k42_mediator.proofs.parts.+export_behind.Given as goal

abbrev pub decreases-export_behind : goal.decreases-export_behind
decreases-export_behind g l = length l.cells.now
