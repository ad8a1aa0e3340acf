use Rattle.record_text.proofs.Reread.{lawful_faultless}
use Rattle.record_text.proofs.laws.lawful_records_have_no_fault.Goals as goal

pub returns : goal.returns
returns c = lawful_faultless
