use Rattle.turn_core.proofs.Later.{later_skipped}
use Rattle.turn_core.proofs.laws.what_follows_a_skip_is_later.Goals as goal

pub returns : goal.returns
returns g c s d stamp events event entry there skipped possible own is = later_skipped s d stamp events event entry there skipped possible own is
