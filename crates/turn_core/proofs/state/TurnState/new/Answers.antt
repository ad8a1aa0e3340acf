use Rattle.std.proofs.Common.{arith}
use Rattle.std.proofs.lemmas.Grind.{common_steps}
use Rattle.turn_core.proofs.Fresh.{IsSound-is_fresh}
use Rattle.turn_core.proofs.state.TurnState.new.Goals as goal

pub returns-clause-sound : goal.returns-clause-sound
returns-clause-sound g c = IsSound-is_fresh _ c.args.lives.items c.args.callers (grind (arith, common_steps))
