use Rattle.script_text.proofs.Spellings.{procs_line, object_line, worker_line}
use Rattle.script_text.proofs.form_laws.a_form_adds_what_it_says.Goals as goal

pub returns-clause-procs : goal.returns-clause-procs
returns-clause-procs c = procs_line

pub returns-clause-object : goal.returns-clause-object
returns-clause-object c = object_line

pub returns-clause-worker : goal.returns-clause-worker
returns-clause-worker c = worker_line
