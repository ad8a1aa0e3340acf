use Rattle.table_laws.proofs.Seated.{newest_named}
use Rattle.table_laws.proofs.hand_overs.naming_leaves_the_state.Goals as goal

pub returns : goal.returns
returns g c id v some_ = newest_named _ _ id v some_
