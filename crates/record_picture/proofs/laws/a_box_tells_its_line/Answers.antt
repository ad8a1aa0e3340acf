use Rattle.record_picture.proofs.PlacedPieces.{title-stands}
use Rattle.record_picture.proofs.laws.a_box_tells_its_line.Goals as goal

pub returns : goal.returns
returns c script before column line = title-stands script before column line
