use Rattle.table_laws.proofs.Seated.{read_stays}
use Rattle.table_laws.proofs.hand_overs.reading_leaves_the_state.Goals as goal

pub returns : goal.returns
returns g c word id found v = read_stays _ _ word id found v
