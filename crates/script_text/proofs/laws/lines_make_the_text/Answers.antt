use Rattle.script_text.proofs.LineCuts.{concat-lines_of}
use Rattle.script_text.proofs.WholeLines.{lines_exactly}
use Rattle.script_text.proofs.laws.lines_make_the_text.Goals as goal

pub returns-clause-whole : goal.returns-clause-whole
returns-clause-whole c = concat-lines_of

pub returns-clause-exactly : goal.returns-clause-exactly
returns-clause-exactly c = lines_exactly
