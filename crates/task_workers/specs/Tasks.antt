-- Tasks: where one is between two of its steps.
use Rattle.std.specs.Prelude.{◌≡◌, ℕ, ◌+◌, ◌≤◌, Bool, true, false, if◌then◌else◌, List, [], length, drop, Some, None, slice_get}
use Rattle.k42_kinds.specs.declared.entry.Act.TheVariants.{Call}
use Rattle.k42_kinds.specs.declared.operation.Op.{Op}
use Rattle.script_text.specs.Lawful.{call_lines}
use Rattle.script_text.specs.declared.script.CallLine.{CallLine}
use Rattle.script_text.specs.declared.script.Item.{Item}
use Rattle.script_text.specs.declared.script.Item.TheVariants.{Line}
use Rattle.script_text.specs.declared.script.WorkerLines.{WorkerLines}
use Rattle.co_system.specs.Systems.{SystemSeen, SystemPass}
use Rattle.k42_runtime.specs.Systems.{IsPassHere, IsAtRest}
use Rattle.k42_workers.specs.Lines.{Standing, IsLatest}
use Rattle.k42_workers.specs.Passes.{IsReady, IsFresh, standing_of}
use Rattle.k42_workers.specs.UnderWay.{IsUnderWay, IsAt}
use Rattle.task_workers.specs.Tries.{IsOfLine, MayTry, graces_with}
use Rattle.task_workers.specs.declared.tasks.TaskAt.{TaskAt}
use Rattle.task_workers.specs.declared.tasks.TaskAt.TheVariants as tasks
use Rattle.task_workers.specs.declared.tasks.WorkerTask.{WorkerTask}

-- the worker that has these items, on the pass's processor; nothing that is said of a worker here goes by its name
abbrev pub worker_on : SystemPass → List Item → WorkerLines
worker_on pass items = record { name = []; proc = pass.view.turn.proc; items = items }

abbrev pub worker_of : WorkerTask → WorkerLines
worker_of task = worker_on task.pass task.items.now

-- how many lines the items have that ask something, but for so many items
abbrev pub lines_behind : ℕ → List Item → ℕ
lines_behind place items = length (call_lines (drop place items))

-- Where a call outside a block is under way, its activity is its own, and is not counted as open.
abbrev pub without_own : Bool → Standing → Standing
without_own inside standing = record standing { active = if inside then standing.active else None }

-- where the task stands before its next item is done
abbrev pub standing_in : WorkerTask → Standing
standing_in task = without_own task.inside (standing_of task.pass.view)

-- With so many graces for the lines up to this one, there is one left for every line behind it.
abbrev pub IsWithin : WorkerTask → ℕ → Type 0
IsWithin task graces = graces + lines_behind (task.done + 1) task.items.now ≤ lines_behind 0 task.items.now

-- Its next line is under way: the call or the swap, which may be tried once more. A call that has begun an activity is in
-- that one, of which no entry is later.
pub record IsInLine (system : SystemSeen) (at : TaskAt) (task : WorkerTask) : Type 0 where
  pub line : CallLine
  pub next : slice_get task.items.now task.done ≡ Some (Line line)
  pub of : IsOfLine line at
  pub may : MayTry system at task.pass
  pub way : IsUnderWay (worker_of task) task.done task.inside (standing_in task)
  pub latest :
      (op : Op) → line.act ≡ Call op
      → (generation : ℕ) → task.pass.view.turn.active ≡ Some generation → IsLatest generation task.pass.view.taker.mine
  pub within : IsWithin task (graces_with at task.pass.view)

-- So many of its items are behind its pass, and none of them is under way.
pub record IsBetweenItems (system : SystemSeen) (task : WorkerTask) : Type 0 where
  pub at_item : IsAt system task.pass.view.number (worker_of task) task.done task.inside task.pass
  pub within : task.done ≤ length task.items.now

-- By where it is: so many items are behind its pass, or its next line is under way, or its pass is idle.
abbrev pub IsOnWay : SystemSeen → TaskAt → WorkerTask → Type 0
IsOnWay system tasks.Between task = IsBetweenItems system task
IsOnWay system (tasks.Calling call) task = IsInLine system (tasks.Calling call) task
IsOnWay system (tasks.Swapping swap) task = IsInLine system (tasks.Swapping swap) task
IsOnWay system tasks.Over task = IsAtRest task.pass.view

-- The task is one of the system, which may be asked what its items ask.
pub record IsTask (system : SystemSeen) (task : WorkerTask) : Type 0 where
  pub here : IsPassHere system task.pass
  pub ready : IsReady system.plan (worker_of task)
  pub way : IsOnWay system task.at task

abbrev pub has_ended : TaskAt → Bool
has_ended tasks.Over = true
has_ended at = false

-- a pass that has not begun, in a system that may be asked what the items ask
pub record MayBegin (system : SystemSeen) (pass : SystemPass) (items : List Item) : Type 0 where
  pub fresh : IsFresh system pass.view.number (worker_on pass items) pass
  pub ready : IsReady system.plan (worker_on pass items)
