use Rattle.std.proofs.Common.{refl}
use Rattle.k42_mediator.proofs.LastFound.{last_takes}
use Rattle.k42_mediator.proofs.opening.end.Goals as goal

pub returns-clause-takes : goal.returns-clause-takes
returns-clause-takes g c = last_takes _ _ _ _ _ _ _ c.clear_step.ensures.takes refl
