use Rattle.table_laws.proofs.Crews.{dealt_off}
use Rattle.table_laws.proofs.seats.dealing_leaves_the_state.Goals as goal

pub returns : goal.returns
returns g c id v rest none = dealt_off _ _ id v rest none
