use Rattle.record_picture.proofs.CountedPictures.{picture-boxes, picture-lines}
use Rattle.record_picture.proofs.laws.no_other_box_and_no_other_line.Goals as goal

pub returns-clause-boxes : goal.returns-clause-boxes
returns-clause-boxes c script written verdict window = picture-boxes script written verdict window

pub returns-clause-lines : goal.returns-clause-lines
returns-clause-lines c script written verdict window = picture-lines script written verdict window
