use Rattle.k42_rule.proofs.Showing.{present}
use Rattle.k42_rule.proofs.laws.rows_inside_are_present.Goals as goal

pub returns : goal.returns
returns g c = rw (← c.sys.view_is) (λ table rule id v at served. present _ _ table rule id v at served)
