use Rattle.record_text.proofs.Reader.Records.{reading_again}
use Rattle.record_text.proofs.laws.printed_is_read.Goals as goal

pub returns : goal.returns
returns c = reading_again
