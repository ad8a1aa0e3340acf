-- A line of a task: how it begins, how it is tried, and what holds it up.
use Rattle.std.specs.Prelude.{◌≡◌, ℕ, ◌+◌, ◌≤◌, Bool, false, Option, Some, None, Result, Ok, Err}
use Rattle.k42_kinds.specs.declared.operation.Op.{Op}
use Rattle.k42_kinds.specs.declared.operation.Reply.{Reply}
use Rattle.k42_kinds.specs.declared.entry.Act.{Act}
use Rattle.k42_kinds.specs.declared.entry.Act.TheVariants.{Call, Swap}
use Rattle.k42_board.specs.declared.view.PassView.{PassView}
use Rattle.script_text.specs.declared.script.CallLine.{CallLine}
use Rattle.co_system.specs.Systems.{IsAsked, MayLead, SystemSeen, SystemPass, SystemPart}
use Rattle.k42_runtime.specs.Calls.{HoldsUp}
use Rattle.k42_runtime.specs.Swaps.{IsAtStage, IsHeldUpBy, StepsWithoutMemory, graces_due, is_over}
use Rattle.k42_runtime.specs.Systems.{IsPassHere, IsAtRest, live_in}
use Rattle.k42_runtime.specs.declared.swaps.Stage.TheVariants.{New}
use Rattle.k42_workers.specs.Lines.{AnswersLine, IsOpened}
use Rattle.k42_workers.specs.Passes.{IsBetween, standing_of}
use Rattle.task_workers.specs.declared.tasks.TaskAt.{TaskAt}
use Rattle.task_workers.specs.declared.tasks.TaskAt.TheVariants as tasks
use Rattle.task_workers.specs.declared.tasks.TaskCause.{TaskCause}
use Rattle.task_workers.specs.declared.tasks.TaskCause.TheVariants as causes

-- a call or a swap that has not begun
abbrev pub started : ℕ → Act Op → TaskAt
started object (Call op) = tasks.Calling (record { object = object; op = op; ended = false })
started object (Swap to) = tasks.Swapping (record { object = object; to = to; stage = New; holder = None })

-- the line begins where none is under way
abbrev pub begun_at : CallLine → TaskAt → TaskAt
begun_at line tasks.Between = started line.object line.act
begun_at line at = at

-- how many graces the pass has begun once the line is done
abbrev pub graces_with : TaskAt → PassView SystemPart Op Reply → ℕ
graces_with (tasks.Swapping swap) v = v.graces + graces_due swap.stage swap.holder
graces_with at v = v.graces

-- the call or the swap is that of the line
abbrev pub IsOfLine : CallLine → TaskAt → Type 0
IsOfLine line (tasks.Calling call) = (line.object ≡ call.object) × (line.act ≡ Call call.op)
IsOfLine line (tasks.Swapping swap) = (line.object ≡ swap.object) × (line.act ≡ Swap swap.to)
IsOfLine line at = ⊥

-- it may be tried once more
abbrev pub MayTry : SystemSeen → TaskAt → SystemPass → Type 0
MayTry system (tasks.Calling call) pass =
    (call.ended ≡ false) × IsAsked system.plan call.object call.op × IsBetween pass.view
MayTry system (tasks.Swapping swap) pass =
    (is_over swap.stage ≡ false) × MayLead system.plan swap.object swap.to
    × IsAtStage swap.stage system.sys.shapes swap pass
MayTry system at pass = ⊥

-- the same caller of the same system
pub record IsSame (system : SystemSeen) (old new : SystemPass) : Type 0 where
  pub here : IsPassHere system new
  pub number : new.view.number ≡ old.view.number
  pub proc : new.view.turn.proc ≡ old.view.turn.proc

-- What this step of the call or the swap found, which holds it up.
abbrev pub HoldsUpLine : SystemSeen → TaskCause → TaskAt → SystemPass → SystemPass → Type 0
HoldsUpLine system (causes.Call cause) (tasks.Calling call) old new = HoldsUp cause call.object old.view new.view
HoldsUpLine system (causes.Swap cause) (tasks.Swapping swap) old new =
    IsHeldUpBy (live_in system.sys.shapes swap.object) cause old.view new.view
HoldsUpLine system cause at old new = ⊥

-- It has drawn nothing. A call has its activity.
abbrev pub StaysUnderWay : TaskAt → SystemPass → SystemPass → Type 0
StaysUnderWay (tasks.Calling call) old new = IsOpened (standing_of old.view) (standing_of new.view)
StaysUnderWay (tasks.Swapping swap) old new = new.view.taker.mine ≡ old.view.taker.mine
StaysUnderWay at old new = ⊥

-- Without memory nothing was begun, or the swap was given up, which its one entry tells.
abbrev pub GivesUp : SystemSeen → TaskAt → SystemPass → SystemPass → Type 0
GivesUp system (tasks.Calling call) old new = new.view.taker.mine ≡ old.view.taker.mine
GivesUp system (tasks.Swapping swap) old new =
    StepsWithoutMemory (live_in system.sys.shapes swap.object) swap.stage swap.object swap.to old.view new.view
GivesUp system at old new = ⊥

-- the line was answered, and nothing of it is under way
pub record IsDone (line : CallLine) (inside : Bool) (at : TaskAt) (old new : SystemPass) : Type 0 where
  pub between : IsBetween new.view
  pub answered : AnswersLine line old.view.turn.proc inside (standing_of old.view) (standing_of new.view)
  pub graces : new.view.graces ≤ graces_with at old.view

-- it was held up, and may be tried again
pub record IsHeldUp (system : SystemSeen) (line : CallLine) (cause : TaskCause) (old_at at : TaskAt) (old new : SystemPass)
    : Type 0 where
  pub of : IsOfLine line at
  pub may : MayTry system at new
  pub held : HoldsUpLine system cause at old new
  pub stays : StaysUnderWay at old new
  pub graces : graces_with at new.view ≤ graces_with old_at old.view

-- there was no memory: its pass is idle
pub record IsGivenUp (system : SystemSeen) (old_at : TaskAt) (old new : SystemPass) : Type 0 where
  pub rests : IsAtRest new.view
  pub ended : GivesUp system old_at old new

-- how a try of the line has come out
abbrev pub HasTried : {E : Type 0} → SystemSeen → CallLine → Bool → Result (Option TaskCause) E → TaskAt → TaskAt → SystemPass → SystemPass
    → Type 0
HasTried system line inside (Ok None) old_at at old new = IsDone line inside old_at old new
HasTried system line inside (Ok (Some cause)) old_at at old new = IsHeldUp system line cause old_at at old new
HasTried system line inside (Err error) old_at at old new = IsGivenUp system old_at old new
