use Rattle.std.proofs.lemmas.List.Elements.{recursion_from_All}
use Rattle.script_text.specs.Spelled.{IsToken}
use Rattle.script_text.proofs.Spacing.{tokens_of-spaced, tokens_of-in_front, tokens_of-at_the_end, tokens_of-between}
use Rattle.script_text.proofs.form_laws.spaced_tokens_are_tokens.Goals as goal

pub returns-clause-one_space : goal.returns-clause-one_space
returns-clause-one_space c = λ tokens all. tokens_of-spaced tokens (recursion_from_All IsToken tokens all)

pub returns-clause-in_front : goal.returns-clause-in_front
returns-clause-in_front c = tokens_of-in_front

pub returns-clause-at_the_end : goal.returns-clause-at_the_end
returns-clause-at_the_end c = tokens_of-at_the_end

pub returns-clause-between : goal.returns-clause-between
returns-clause-between c = tokens_of-between
