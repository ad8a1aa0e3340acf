use Rattle.k42_rule.proofs.Showing.{step_keeps_freed}
use Rattle.k42_rule.proofs.laws.freed_rows_stay_freed.Goals as goal

pub returns : goal.returns
returns g c = step_keeps_freed _ _
