use Rattle.record_text.proofs.OneHistory.{one_text}
use Rattle.record_text.proofs.laws.alike_histories_have_one_text.Goals as goal

pub returns : goal.returns
returns c = one_text
