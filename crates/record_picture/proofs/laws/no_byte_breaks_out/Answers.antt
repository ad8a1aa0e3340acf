use Rattle.record_picture.proofs.Escapes.{escaped-inert}
use Rattle.record_picture.proofs.laws.no_byte_breaks_out.Goals as goal

pub returns : goal.returns
returns c bytes = escaped-inert bytes
