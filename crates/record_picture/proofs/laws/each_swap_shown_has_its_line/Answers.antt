use Rattle.record_picture.proofs.PlacedPieces.{swap-stands}
use Rattle.record_picture.proofs.laws.each_swap_shown_has_its_line.Goals as goal

pub returns : goal.returns
returns c script written verdict window place line found = swap-stands script written verdict window place line found
