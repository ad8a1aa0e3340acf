use Rattle.task_workers.proofs.ItemsDone.{task_begun}
use Rattle.task_workers.proofs.tasks.WorkerTask.new.Goals as goal

pub returns-clause-may : goal.returns-clause-may
returns-clause-may c system may = task_begun system c.args.pass c.args.items may
