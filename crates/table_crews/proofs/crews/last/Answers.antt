use Rattle.table_crews.proofs.PassLists.{others_free, last_free}
use Rattle.table_crews.proofs.crews.last.Goals as goal

pub returns-clause-free : goal.returns-clause-free
returns-clause-free g c = others_free _ _ _ c.pop.result c.requires.free c.pop.ensures.items

pub returns-clause-out : goal.returns-clause-out
returns-clause-out g c = last_free _ _ _ c.pop.result c.requires.free c.pop.ensures.items
