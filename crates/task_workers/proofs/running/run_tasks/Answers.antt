use Rattle.k42_workers.specs.Passes.{HaveWorked}
use Rattle.task_workers.proofs.running.run_tasks.Goals as goal

pub end_run-requires-clause-worked : goal.end_run-requires-clause-worked
end_run-requires-clause-worked g c =
    let worked : HaveWorked c.in_ok-system.system 0 c.args.script.now.workers c.in_ok-passes.passes.items = rw c.as_slice.ensures at c.in_ok-passes.ensures.worked in
    worked
