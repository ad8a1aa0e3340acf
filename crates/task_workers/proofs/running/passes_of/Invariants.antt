use Rattle.std.proofs.Common.{◌≡◌, ◌++◌, map}
use Rattle.task_workers.specs.Rounds.{HaveEnded}
use Rattle.task_workers.specs.declared.tasks.WorkerTask.{WorkerTask}
use Rattle.task_workers.proofs.running.passes_of.Given as goal

abbrev pub invariant-loop-task : goal.invariant-loop-task
invariant-loop-task l =
    HaveEnded l.task-iterator.rest.items
    × (l.passes.items ++ map (λ (task : WorkerTask). task.pass) l.task-iterator.rest.items ≡ map (λ (task : WorkerTask). task.pass) l.fn.tasks.items)
