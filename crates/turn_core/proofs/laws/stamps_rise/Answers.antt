use Rattle.turn_core.proofs.Reached.{lists-rise, histories-rise}
use Rattle.turn_core.proofs.laws.stamps_rise.Goals as goal

pub returns-clause-histories : goal.returns-clause-histories
returns-clause-histories g c s n life history sound is = histories-rise s n life history sound is

pub returns-clause-lists : goal.returns-clause-lists
returns-clause-lists g c s d sound = lists-rise s d sound
