use Rattle.table_laws.proofs.NewState.{new_state}
use Rattle.table_laws.proofs.opening.a_new_table_shows_the_new_state.Goals as goal

pub returns : goal.returns
returns g c table ruled news = new_state _ _ _ table ruled news
