use Rattle.std.proofs.Common.{length}
use Rattle.turn_core.proofs.state.TurnState.+close_all.Given as goal

abbrev pub decreases-close_all : goal.decreases-close_all
decreases-close_all g l = length l.cells.now
