use Rattle.std.proofs.Common.{refl}
use Rattle.std.specs.Prelude.{codes}
use Rattle.record_text.specs.Rules.{rule_number, rule_of_answer}
use Rattle.record_picture.specs.Marked.{answer_meaning}
use Rattle.record_picture.proofs.MarkedFaults.{lawful_told, unlawful_told, words-answer}
use Rattle.record_picture.proofs.fault_laws.the_verdict_is_told_in_words.Goals as goal

pub returns-clause-lawful : goal.returns-clause-lawful
returns-clause-lawful c script written window = lawful_told script written window

pub returns-clause-calls : goal.returns-clause-calls
returns-clause-calls c script written window line op answer = unlawful_told script written window line 5 (codes "the object would not have replied so") refl

pub returns-clause-swaps : goal.returns-clause-swaps
returns-clause-swaps c script written window line answer = unlawful_told script written window line (rule_number (rule_of_answer answer)) (answer_meaning answer) (words-answer answer)

pub returns-clause-stamps : goal.returns-clause-stamps
returns-clause-stamps c script written window line = unlawful_told script written window line 2 (codes "the stamp is not the number of the entry") refl

pub returns-clause-order : goal.returns-clause-order
returns-clause-order c script written window line = unlawful_told script written window line 8 (codes "not the next line of its worker, or lines are missing at the end") refl

pub returns-clause-generations : goal.returns-clause-generations
returns-clause-generations c script written window line = unlawful_told script written window line 21 (codes "not the processor of the worker, or the generation is out of step") refl
