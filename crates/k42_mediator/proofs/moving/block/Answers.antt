use Rattle.std.proofs.Common.{refl}
use Rattle.k42_mediator.proofs.LastFound.{last_steps}
use Rattle.k42_mediator.proofs.moving.block.Goals as goal

pub returns : goal.returns
returns g c = last_steps _ _ _ _ _ _ c.block_step.ensures refl
