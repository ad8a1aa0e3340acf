use Rattle.record_picture.proofs.NamedPictures.{picture-names}
use Rattle.record_picture.proofs.laws.each_ampersand_names_a_byte.Goals as goal

pub returns : goal.returns
returns c script written verdict window = picture-names script written verdict window
