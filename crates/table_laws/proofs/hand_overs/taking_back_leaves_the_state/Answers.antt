use Rattle.table_laws.proofs.Seated.{taken_back}
use Rattle.table_laws.proofs.hand_overs.taking_back_leaves_the_state.Goals as goal

pub returns : goal.returns
returns g c id other v row granted few all noted = taken_back _ _ id v other row granted few all noted
