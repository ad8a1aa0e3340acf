use Rattle.table_laws.proofs.Keeping.{kept_on}
use Rattle.table_laws.proofs.kept.what_is_kept_follows_the_draws.Goals as goal

pub returns : goal.returns
returns g c = kept_on
