use Rattle.std.proofs.Common.{rules}
use Rattle.std.proofs.lemmas.Fmt.{decimal_digit}
use Rattle.script_text.proofs.digits.put_digits.Goals as goal

pub returns-then-number-lt10 : goal.returns-then-number-lt10
returns-then-number-lt10 c = search (rules, decimal_digit c.args.number c.if-number-lt10.true)
