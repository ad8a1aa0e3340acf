use Rattle.k42_rule.proofs.Showing.{one_name}
use Rattle.k42_rule.proofs.laws.rows_have_one_name.Goals as goal

pub returns : goal.returns
returns g c = one_name _ _
