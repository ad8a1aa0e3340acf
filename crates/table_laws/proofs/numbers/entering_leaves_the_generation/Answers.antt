use Rattle.table_laws.proofs.Entering.{counts_entry}
use Rattle.table_laws.proofs.numbers.entering_leaves_the_generation.Goals as goal

pub returns : goal.returns
returns g c pass word = counts_entry word
