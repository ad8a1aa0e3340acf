use Rattle.record_text.proofs.OneHistory.{one_history}
use Rattle.record_text.proofs.laws.a_text_has_one_history.Goals as goal

pub returns : goal.returns
returns c = one_history
