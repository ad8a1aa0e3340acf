-- The tasks of a run.
use Rattle.std.specs.Prelude.{◌≡◌, ℕ, ◌+◌, Bool, true, false, List, [], ◌∷◌}
use Rattle.std.specs.List.{AllByRecursion}
use Rattle.script_text.specs.declared.script.Item.{Item}
use Rattle.script_text.specs.declared.script.WorkerLines.{WorkerLines}
use Rattle.co_system.specs.Systems.{SystemSeen}
use Rattle.task_workers.specs.Tasks.{IsTask, has_ended}
use Rattle.task_workers.specs.Steps.{HasDoneAll}
use Rattle.task_workers.specs.declared.tasks.WorkerTask.{WorkerTask}

-- what stays of a task: its items, and whose it is
pub record Own : Type 0 where
  pub items : List Item
  pub number : ℕ
  pub proc : ℕ

abbrev pub own_of : WorkerTask → Own
own_of task = record { items = task.items.now; number = task.pass.view.number; proc = task.pass.view.turn.proc }

-- what stays of the tasks of workers whose numbers count on from a first one
abbrev pub owns_from : ℕ → List WorkerLines → List Own
owns_from first [] = []
owns_from first (worker ∷ workers) =
    record { items = worker.items; number = first; proc = worker.proc } ∷ owns_from (first + 1) workers

-- a task of the system, which has done all where it has ended, unless one was refused memory
pub record IsInRun (system : SystemSeen) (refused : Bool) (task : WorkerTask) : Type 0 where
  pub task_is : IsTask system task
  pub done : refused ≡ false → has_ended task.at ≡ true → HasDoneAll task

abbrev pub AreInRun : SystemSeen → Bool → List WorkerTask → Type 0
AreInRun system refused tasks = AllByRecursion (IsInRun system refused) tasks

-- all have ended
abbrev pub HaveEnded : List WorkerTask → Type 0
HaveEnded tasks = AllByRecursion (λ task. has_ended task.at ≡ true) tasks
