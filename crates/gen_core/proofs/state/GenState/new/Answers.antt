use Rattle.std.proofs.Common.{arith}
use Rattle.std.proofs.lemmas.Grind.{common_steps}
use Rattle.gen_core.proofs.Fresh.{IsSound-is_fresh}
use Rattle.gen_core.proofs.state.GenState.new.Goals as goal

pub returns-clause-sound : goal.returns-clause-sound
returns-clause-sound c = IsSound-is_fresh _ c.args.procs c.args.callers.items c.requires (grind (arith, common_steps))
