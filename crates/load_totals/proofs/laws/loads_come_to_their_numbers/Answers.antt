use Rattle.load_totals.proofs.Numbers.{due}
use Rattle.load_totals.proofs.laws.loads_come_to_their_numbers.Goals as goal

pub returns : goal.returns
returns c = λ n history small lawful. due n small history lawful
