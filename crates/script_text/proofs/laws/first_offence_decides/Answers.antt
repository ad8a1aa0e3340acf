use Rattle.script_text.proofs.FirstOffence.{refused_at_first, decided_at_end}
use Rattle.script_text.proofs.laws.first_offence_decides.Goals as goal

pub returns-clause-refused : goal.returns-clause-refused
returns-clause-refused c = refused_at_first

pub returns-clause-at_end : goal.returns-clause-at_end
returns-clause-at_end c = decided_at_end
