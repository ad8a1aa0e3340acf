use Rattle.std.proofs.Common.{refl}
use Rattle.k42_mediator.proofs.LastFound.{last_steps}
use Rattle.k42_mediator.proofs.moving.try_move.Goals as goal

pub returns-then-count-eq0-clause-stepped : goal.returns-then-count-eq0-clause-stepped
returns-then-count-eq0-clause-stepped g c = last_steps _ _ _ _ _ _ c.move_step-found.ensures refl

pub returns-else-count-eq0-clause-stepped : goal.returns-else-count-eq0-clause-stepped
returns-else-count-eq0-clause-stepped g c = last_steps _ _ _ _ _ _ c.move_step-found.ensures refl
