use Rattle.record_text.proofs.Rebuilt.{lawful_from_rules}
use Rattle.record_text.proofs.Reread.{rules_from_lawful}
use Rattle.record_text.proofs.laws.rules_make_records_lawful.Goals as goal

pub returns : goal.returns
returns c = λ script written text. (lawful_from_rules script written text, rules_from_lawful script written)
