use Rattle.std.proofs.Common.{rules, true}
use Rattle.task_workers.proofs.TaskLists.{in_run_at, in_run_set}
use Rattle.task_tests.proofs.tests.steps.step_at.Goals as goal

pub step-requires : goal.step-requires
step-requires g c = in_run_at c.args.system.now true c.args.tasks.now c.args.place c.index-tasks-place.result (search rules) c.requires

pub returns : goal.returns
returns g c = in_run_set c.args.system.now true c.args.tasks.now c.args.place c.step.new.task c.requires c.step.ensures
