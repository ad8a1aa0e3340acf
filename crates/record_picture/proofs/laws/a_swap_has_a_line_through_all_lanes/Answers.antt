use Rattle.record_picture.proofs.PlacedPieces.{swap-placed}
use Rattle.record_picture.proofs.laws.a_swap_has_a_line_through_all_lanes.Goals as goal

pub returns-clause-placed : goal.returns-clause-placed
returns-clause-placed c script column line number swapped = swap-placed script column line line.answer number swapped
