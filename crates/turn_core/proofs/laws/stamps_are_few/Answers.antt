use Rattle.turn_core.proofs.Reached.{stamps-few}
use Rattle.turn_core.proofs.laws.stamps_are_few.Goals as goal

pub returns : goal.returns
returns g c s d n entry sound there = stamps-few s d n entry sound there
