use Rattle.record_picture.proofs.PlacedPieces.{box-stands}
use Rattle.record_picture.proofs.laws.each_entry_shown_has_its_box.Goals as goal

pub returns : goal.returns
returns c script written verdict window place line found = box-stands script written verdict window place line found
