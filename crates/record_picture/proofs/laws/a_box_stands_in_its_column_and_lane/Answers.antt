use Rattle.record_picture.proofs.PlacedPieces.{box-placed}
use Rattle.record_picture.proofs.laws.a_box_stands_in_its_column_and_lane.Goals as goal

pub returns : goal.returns
returns c script before column line = box-placed script before column line
