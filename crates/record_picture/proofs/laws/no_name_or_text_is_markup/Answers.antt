use Rattle.record_picture.proofs.BlankPictures.{picture-blank}
use Rattle.record_picture.proofs.laws.no_name_or_text_is_markup.Goals as goal

pub returns : goal.returns
returns c script written verdict window = picture-blank script written verdict window
