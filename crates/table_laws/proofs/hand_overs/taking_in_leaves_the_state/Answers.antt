use Rattle.table_laws.proofs.Seated.{taken_in}
use Rattle.table_laws.proofs.hand_overs.taking_in_leaves_the_state.Goals as goal

pub returns : goal.returns
returns g c id other v row few = taken_in _ _ id v other row few
