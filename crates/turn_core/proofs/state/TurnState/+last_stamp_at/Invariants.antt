use Rattle.std.proofs.Common.{length}
use Rattle.turn_core.proofs.state.TurnState.+last_stamp_at.Given as goal

abbrev pub decreases-last_stamp_at : goal.decreases-last_stamp_at
decreases-last_stamp_at g l = length l.cells.now
