use Rattle.table_laws.proofs.Crews.{gathered}
use Rattle.table_laws.proofs.seats.gathering_leaves_the_state.Goals as goal

pub returns : goal.returns
returns g c id other ours theirs = gathered _ _ id other ours theirs
