use Rattle.table_crews.proofs.PassLists.{new_free}
use Rattle.table_crews.proofs.crews.start.Goals as goal

pub returns-clause-free : goal.returns-clause-free
returns-clause-free g c = new_free _ _ _ _ _ c.in_ok-sys.ensures.started
