use Rattle.k42_mediator.proofs.EntriesChanged.{opens_all}
use Rattle.k42_mediator.proofs.opening.open_entries.Goals as goal

pub returns-clause-comes : goal.returns-clause-comes
returns-clause-comes g c = opens_all _ _ _ _ _ c.turn_over.ensures.takes.knows c.change_entries.ensures.comes
