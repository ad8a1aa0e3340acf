use Rattle.record_text.proofs.Reread.{one_fault}
use Rattle.record_text.proofs.laws.first_faults_are_one.Goals as goal

pub returns : goal.returns
returns c = one_fault
