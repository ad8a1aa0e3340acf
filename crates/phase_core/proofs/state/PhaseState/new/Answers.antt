use Rattle.std.proofs.Common.{arith}
use Rattle.std.proofs.lemmas.Grind.{common_steps}
use Rattle.phase_core.proofs.Fresh.{IsSound-is_new}
use Rattle.phase_core.proofs.state.PhaseState.new.Goals as goal

pub returns-clause-sound : goal.returns-clause-sound
returns-clause-sound c =
    IsSound-is_new _ c.args.procs c.args.plans.items c.args.callers.items c.requires (grind (arith, common_steps))
