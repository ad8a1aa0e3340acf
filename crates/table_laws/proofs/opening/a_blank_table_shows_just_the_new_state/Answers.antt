use Rattle.table_laws.proofs.NewTable.{just_new}
use Rattle.table_laws.proofs.opening.a_blank_table_shows_just_the_new_state.Goals as goal

pub returns : goal.returns
returns g c table ruled news blank all = just_new _ _ _ table ruled news blank all
