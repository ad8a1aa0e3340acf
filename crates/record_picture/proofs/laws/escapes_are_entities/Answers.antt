use Rattle.record_picture.proofs.Escapes.{names-escaped}
use Rattle.record_picture.proofs.laws.escapes_are_entities.Goals as goal

pub returns : goal.returns
returns c bytes = names-escaped bytes
