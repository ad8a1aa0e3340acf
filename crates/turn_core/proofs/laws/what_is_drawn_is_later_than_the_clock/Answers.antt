use Rattle.turn_core.proofs.Later.{later_drawn}
use Rattle.turn_core.proofs.laws.what_is_drawn_is_later_than_the_clock.Goals as goal

pub returns : goal.returns
returns g c s event entry possible is = later_drawn s event entry possible is
