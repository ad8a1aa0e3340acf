-- Steps of a task: what each answer says of it.
use Rattle.std.specs.Prelude.{◌≡◌, ◌⊎◌, ℕ, ◌+◌, ◌<◌, Bool, true, false, if◌then◌else◌, length, nat_lt, Some, slice_get}
use Rattle.script_text.specs.declared.script.CallLine.{CallLine}
use Rattle.script_text.specs.declared.script.Item.{Item}
use Rattle.script_text.specs.declared.script.Item.TheVariants.{Line}
use Rattle.co_system.specs.Systems.{SystemSeen}
use Rattle.k42_runtime.specs.Systems.{IsAtRest}
use Rattle.k42_workers.specs.Lines.{Follows}
use Rattle.k42_workers.specs.Passes.{standing_of}
use Rattle.k42_workers.specs.Workers.{HasDoneLines}
use Rattle.task_workers.specs.Tries.{HoldsUpLine, StaysUnderWay, GivesUp, begun_at}
use Rattle.task_workers.specs.Tasks.{worker_of, has_ended, IsTask}
use Rattle.task_workers.specs.declared.tasks.TaskAt.{TaskAt}
use Rattle.task_workers.specs.declared.tasks.TaskAt.TheVariants as tasks
use Rattle.task_workers.specs.declared.tasks.TaskCause.{TaskCause}
use Rattle.task_workers.specs.declared.tasks.TaskStep.{TaskStep}
use Rattle.task_workers.specs.declared.tasks.TaskStep.TheVariants as steps
use Rattle.task_workers.specs.declared.tasks.WorkerTask.{WorkerTask}

-- whether a step is the task's last
abbrev pub is_last : TaskStep → Bool
is_last (steps.Again cause) = false
is_last steps.Going = false
is_last steps.Ended = true
is_last steps.Memory = true

-- the task behind its next item, where a block is open or not
abbrev pub at_behind : ℕ → ℕ → TaskAt
at_behind done many = if nat_lt done many then tasks.Between else tasks.Over

abbrev pub behind_item : Bool → WorkerTask → WorkerTask
behind_item inside task =
    record task { done = task.done + 1; inside = inside; at = at_behind (task.done + 1) (length task.items.now) }

abbrev pub step_behind : ℕ → ℕ → TaskStep
step_behind done many = if nat_lt done many then steps.Going else steps.Ended

-- it has the items and the pass that it had
pub record IsSameTask (old new : WorkerTask) : Type 0 where
  pub items : new.items.now ≡ old.items.now
  pub number : new.pass.view.number ≡ old.pass.view.number
  pub proc : new.pass.view.turn.proc ≡ old.pass.view.turn.proc

-- its next line is under way, and was held up by this; it has drawn nothing
pub record WasHeldUp (system : SystemSeen) (cause : TaskCause) (old new : WorkerTask) : Type 0 where
  pub held : HoldsUpLine system cause new.at old.pass new.pass
  pub stays : StaysUnderWay new.at old.pass new.pass
  pub drawn : new.pass.view.taker.mine ≡ old.pass.view.taker.mine
  pub done : new.done ≡ old.done
  pub left : new.done < length new.items.now

-- it has followed its next item, and no other
pub record HasFollowed (old new : WorkerTask) : Type 0 where
  pub item : Item
  pub next : slice_get old.items.now old.done ≡ Some item
  pub done : new.done ≡ old.done + 1
  pub follows :
      Follows item old.pass.view.turn.proc old.inside new.inside (standing_of old.pass.view) (standing_of new.pass.view)

-- all items are done: its pass is idle, and has just the entries of the worker's lines
pub record HasDoneAll (task : WorkerTask) : Type 0 where
  pub all : task.done ≡ length task.items.now
  pub rests : IsAtRest task.pass.view
  pub lines : HasDoneLines (worker_of task) task.pass.view.taker.mine

-- no item was left
pub record HadNone (old new : WorkerTask) : Type 0 where
  pub none : old.done ≡ length old.items.now
  pub pass : new.pass ≡ old.pass

-- it has ended at its next line, and its pass is in no activity
pub record HasGivenUp (system : SystemSeen) (old new : WorkerTask) : Type 0 where
  pub line : CallLine
  pub next : slice_get old.items.now old.done ≡ Some (Line line)
  pub done : new.done ≡ old.done
  pub left : new.done < length new.items.now
  pub rests : IsAtRest new.pass.view
  pub ended : GivesUp system (begun_at line old.at) old.pass new.pass

-- what a step brings, by its answer
abbrev pub HasBrought : SystemSeen → TaskStep → WorkerTask → WorkerTask → Type 0
HasBrought system (steps.Again cause) old new = WasHeldUp system cause old new
HasBrought system steps.Going old new = HasFollowed old new × (new.at ≡ tasks.Between) × (new.done < length new.items.now)
HasBrought system steps.Ended old new = HasDoneAll new × (HasFollowed old new ⊎ HadNone old new)
HasBrought system steps.Memory old new = HasGivenUp system old new

-- The task once a step has answered so: it may be stepped on, unless it has ended.
pub record HasStepped (system : SystemSeen) (result : TaskStep) (old new : WorkerTask) : Type 0 where
  pub task : IsTask system new
  pub same : IsSameTask old new
  pub over : has_ended new.at ≡ is_last result
  pub brought : HasBrought system result old new
