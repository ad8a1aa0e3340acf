use Rattle.swap_future.proofs.Drawn.{all_brought_back}
use Rattle.swap_future.proofs.laws.each_pass_draws_the_entries_of_its_items.Goals as goal

pub returns : goal.returns
returns c system plan olds news answers is = all_brought_back system plan olds news answers is
