use Rattle.record_text.proofs.Reader.Records.{one_record}
use Rattle.record_text.proofs.laws.two_records_have_two_texts.Goals as goal

pub returns : goal.returns
returns c = one_record
