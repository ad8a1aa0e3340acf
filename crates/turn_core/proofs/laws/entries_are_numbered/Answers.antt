use Rattle.turn_core.proofs.Reached.{numbers-entries}
use Rattle.turn_core.proofs.laws.entries_are_numbered.Goals as goal

pub returns : goal.returns
returns g c s sound = numbers-entries s sound
