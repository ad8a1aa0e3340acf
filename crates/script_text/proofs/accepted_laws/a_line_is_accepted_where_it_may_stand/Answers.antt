use Rattle.script_text.proofs.AcceptedActs.{accepted_act}
use Rattle.script_text.proofs.AcceptedForms.{accepted_procs, accepted_object, accepted_worker, accepted_begin, accepted_end}
use Rattle.script_text.proofs.accepted_laws.a_line_is_accepted_where_it_may_stand.Goals as goal

pub returns-clause-procs : goal.returns-clause-procs
returns-clause-procs c = accepted_procs

pub returns-clause-object : goal.returns-clause-object
returns-clause-object c = accepted_object

pub returns-clause-worker : goal.returns-clause-worker
returns-clause-worker c = accepted_worker

pub returns-clause-begin : goal.returns-clause-begin
returns-clause-begin c = accepted_begin

pub returns-clause-end : goal.returns-clause-end
returns-clause-end c = accepted_end

pub returns-clause-act : goal.returns-clause-act
returns-clause-act c = accepted_act
