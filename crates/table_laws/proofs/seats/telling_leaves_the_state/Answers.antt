use Rattle.table_laws.proofs.Crews.{told_off}
use Rattle.table_laws.proofs.seats.telling_leaves_the_state.Goals as goal

pub returns : goal.returns
returns g c id v = told_off _ _ id v
