use Rattle.record_text.proofs.Reader.Records.{reading_takes}
use Rattle.record_text.proofs.laws.read_is_printed.Goals as goal

pub returns-clause-text : goal.returns-clause-text
returns-clause-text c script bytes written e = (reading_takes script bytes written e).text

pub returns-clause-spelled : goal.returns-clause-spelled
returns-clause-spelled c script bytes written e = (reading_takes script bytes written e).has
