use Rattle.gen_core.proofs.Holding.{only_the_holder_moves}
use Rattle.gen_core.proofs.laws.only_the_holder_moves.Goals as goal

pub returns : goal.returns
returns c = only_the_holder_moves
