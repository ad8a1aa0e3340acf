use Rattle.table_laws.proofs.FirstPasses.{passes_opened}
use Rattle.table_laws.proofs.opening.an_opened_table_has_new_passes.Goals as goal

pub returns : goal.returns
returns g c words slots table is = passes_opened _ _ _ _ words slots table is
