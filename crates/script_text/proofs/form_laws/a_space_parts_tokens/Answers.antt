use Rattle.script_text.proofs.Spacing.{tokens_of-parts}
use Rattle.script_text.proofs.form_laws.a_space_parts_tokens.Goals as goal

pub returns : goal.returns
returns c = tokens_of-parts
