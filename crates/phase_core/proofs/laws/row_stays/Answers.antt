use Rattle.phase_core.proofs.Changed.{row_stays}
use Rattle.phase_core.proofs.laws.row_stays.Goals as goal

pub returns : goal.returns
returns g = row_stays
