use Rattle.table_laws.proofs.Keeping.{own_list}
use Rattle.table_laws.proofs.kept.what_was_drawn_rises.Goals as goal

pub returns : goal.returns
returns g c table rule = own_list _ _ table rule
