use Rattle.turn_core.proofs.Reached.{stands-once}
use Rattle.turn_core.proofs.laws.entries_stand_once.Goals as goal

pub returns : goal.returns
returns g c s n life place history entry sound is there = stands-once s n life place history entry sound is there
