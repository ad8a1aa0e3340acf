use Rattle.phase_core.proofs.Reached.{reached_sound}
use Rattle.phase_core.proofs.laws.stays_sound.Goals as goal

pub returns : goal.returns
returns c = reached_sound
