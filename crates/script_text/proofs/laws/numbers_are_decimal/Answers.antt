use Rattle.script_text.proofs.DecimalNumbers.{number_of-decimal}
use Rattle.script_text.proofs.laws.numbers_are_decimal.Goals as goal

pub returns : goal.returns
returns c = number_of-decimal
