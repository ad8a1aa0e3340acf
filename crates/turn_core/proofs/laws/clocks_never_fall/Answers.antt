use Rattle.turn_core.proofs.Later.{clock-run}
use Rattle.turn_core.proofs.laws.clocks_never_fall.Goals as goal

pub returns : goal.returns
returns g c s events d = clock-run events s d
