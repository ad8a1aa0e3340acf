use Rattle.table_laws.proofs.Fitting.{numbers_are}
use Rattle.table_laws.proofs.numbers.numbers_fit.Goals as goal

pub returns : goal.returns
returns g c table rule = numbers_are _ _ table rule
