use Rattle.table_laws.proofs.Reading.{numbers_read}
use Rattle.table_laws.proofs.numbers.numbers_are_read.Goals as goal

pub returns : goal.returns
returns g c table rule = numbers_read _ _ table rule
