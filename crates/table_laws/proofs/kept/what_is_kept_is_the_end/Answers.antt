use Rattle.table_laws.proofs.Keeping.{kept_last}
use Rattle.table_laws.proofs.kept.what_is_kept_is_the_end.Goals as goal

pub returns : goal.returns
returns g c = kept_last
