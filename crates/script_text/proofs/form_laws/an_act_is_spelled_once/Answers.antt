use Rattle.script_text.proofs.Spellings.{act_line, act_spelling}
use Rattle.script_text.proofs.form_laws.an_act_is_spelled_once.Goals as goal

pub returns-clause-adds : goal.returns-clause-adds
returns-clause-adds c = λ script number place name act there. act_line script number place name act

pub returns-clause-once : goal.returns-clause-once
returns-clause-once c = act_spelling
