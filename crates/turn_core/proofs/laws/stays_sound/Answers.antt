use Rattle.turn_core.proofs.Reached.{reached-sound}
use Rattle.turn_core.proofs.laws.stays_sound.Goals as goal

pub returns : goal.returns
returns g c s reached = reached-sound s reached
