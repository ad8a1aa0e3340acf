-- The pass of a worker, between two items.
use Rattle.std.specs.Prelude.{◌≡◌, ℕ, ◌+◌, ◌<◌, ◌≤◌, true, false, ⊤, List, [], ◌∷◌, All, length}
use Rattle.gen_core.specs.Events as graces
use Rattle.k42_limits.specs.declared.TheConstants.{CALLERS, CALL_LINES, PASS_ENTRIES, PASS_GRACES}
use Rattle.k42_places.specs.Places.{EachPair}
use Rattle.k42_kinds.specs.declared.operation.Op.{Op}
use Rattle.k42_kinds.specs.declared.operation.Reply.{Reply}
use Rattle.k42_kinds.specs.declared.entry.Act.{Act}
use Rattle.k42_kinds.specs.declared.entry.Act.TheVariants.{Call, Swap}
use Rattle.phase_core.specs.Stages as swaps
use Rattle.script_text.specs.Lawful.{call_lines}
use Rattle.script_text.specs.Sound.{BlocksMatch}
use Rattle.script_text.specs.declared.script.CallLine.{CallLine}
use Rattle.script_text.specs.declared.script.Item.{Item}
use Rattle.script_text.specs.declared.script.Item.TheVariants.{Begin, End, Line}
use Rattle.script_text.specs.declared.script.WorkerLines.{WorkerLines}
use Rattle.k42_board.specs.Log.{last_found, step_at}
use Rattle.k42_board.specs.Words.{generation_word}
use Rattle.k42_board.specs.declared.view.PassView.{PassView}
use Rattle.k42_board.specs.declared.view.StepName.TheVariants as steps
use Rattle.co_system.specs.Systems.{IsAsked, MayLead, PlanSeen, SystemPass, SystemSeen}
use Rattle.k42_runtime.specs.Systems.{IsPassHere, IsAtRest}
use Rattle.k42_workers.specs.Lines.{Standing}
use Rattle.k42_workers.specs.Workers.{HasDoneLines}

-- the act may be asked of the object, and a swap leads to a layout of it
abbrev pub MayAsk : PlanSeen → ℕ → Act Op → Type 0
MayAsk plan object (Call op) = IsAsked plan object op
MayAsk plan object (Swap to) = (object < length plan.objects) × MayLead plan object to

abbrev pub MayAskLine : PlanSeen → CallLine → Type 0
MayAskLine plan line = MayAsk plan line.object line.act

-- A worker's lines may be asked of the plan's objects, they are not too many, and its blocks match.
pub record IsReady (plan : PlanSeen) (worker : WorkerLines) : Type 0 where
  pub asked : All (MayAskLine plan) (call_lines worker.items)
  pub few : length (call_lines worker.items) ≤ CALL_LINES
  pub matches : BlocksMatch false worker.items false

abbrev pub standing_of : {P : Type 0} → PassView P Op Reply → Standing
standing_of v = record { entries = v.taker.mine; active = v.turn.active }

-- no grace and no swap is under way
pub record IsBetween {P : Type 0} (v : PassView P Op Reply) : Type 0 where
  pub grace : graces.is_idle v.turn.grace ≡ true
  pub swap : swaps.is_idle v.visitor.swap ≡ true

-- there is room for one entry and one grace more
pub record HasFew {P : Type 0} (v : PassView P Op Reply) : Type 0 where
  pub entries : length v.taker.mine < PASS_ENTRIES
  pub graces : v.graces < PASS_GRACES

-- the same caller on its processor, with at most one grace more
pub record GoesOnAs {P : Type 0} (old new : PassView P Op Reply) : Type 0 where
  pub number : new.number ≡ old.number
  pub proc : new.turn.proc ≡ old.turn.proc
  pub graces : new.graces ≤ old.graces + 1

-- and with none more
pub record StaysAs {P : Type 0} (old new : PassView P Op Reply) : Type 0 where
  pub number : new.number ≡ old.number
  pub proc : new.turn.proc ≡ old.turn.proc
  pub graces : new.graces ≡ old.graces

-- it has taken the step into an activity, and no other
abbrev pub HasOnlyEntered : {P : Type 0} → PassView P Op Reply → PassView P Op Reply → Type 0
HasOnlyEntered old new =
    new.log ≡ step_at steps.Enter (generation_word old.turn.proc) (last_found new.log) ∷ old.log

-- a swap is made between two activities
abbrev pub RestsFor : {P : Type 0} → Act Op → PassView P Op Reply → Type 0
RestsFor (Call op) v = ⊤
RestsFor (Swap to) v = IsAtRest v

-- the line may be answered now
pub record MayAnswer {P : Type 0} (plan : PlanSeen) (line : CallLine) (v : PassView P Op Reply) : Type 0 where
  pub asked : MayAskLine plan line
  pub rests : RestsFor line.act v
  pub few : HasFew v

abbrev pub MayFollow : {P : Type 0} → PlanSeen → Item → PassView P Op Reply → Type 0
MayFollow plan Begin v = ⊤
MayFollow plan End v = ⊤
MayFollow plan (Line line) v = MayAnswer plan line v

-- only a line may need a grace more
abbrev pub GoesOnBy : {P : Type 0} → Item → PassView P Op Reply → PassView P Op Reply → Type 0
GoesOnBy Begin old new = StaysAs old new
GoesOnBy End old new = StaysAs old new
GoesOnBy (Line line) old new = GoesOnAs old new

-- the pass of this worker, which has not begun
pub record IsFresh (system : SystemSeen) (number : ℕ) (worker : WorkerLines) (pass : SystemPass) : Type 0 where
  pub here : IsPassHere system pass
  pub rests : IsAtRest pass.view
  pub caller : pass.view.number ≡ number
  pub proc : pass.view.turn.proc ≡ worker.proc
  pub entries : pass.view.taker.mine ≡ []
  pub graces : pass.view.graces ≡ 0

-- it rests, and its entries are those of the worker's lines
pub record HasWorked (system : SystemSeen) (number : ℕ) (worker : WorkerLines) (pass : SystemPass) : Type 0 where
  pub here : IsPassHere system pass
  pub rests : IsAtRest pass.view
  pub caller : pass.view.number ≡ number
  pub done : HasDoneLines worker pass.view.taker.mine

-- the passes of workers whose numbers count on from a first one: before their first items, and behind their last
abbrev pub AreFresh : SystemSeen → ℕ → List WorkerLines → List SystemPass → Type 0
AreFresh system first workers passes = EachPair (λ i worker pass. IsFresh system (first + i) worker pass) workers passes

abbrev pub HaveWorked : SystemSeen → ℕ → List WorkerLines → List SystemPass → Type 0
HaveWorked system first workers passes = EachPair (λ i worker pass. HasWorked system (first + i) worker pass) workers passes

-- there is a pass for each worker, which has not begun, and each worker's lines may be asked
pub record MayWork (system : SystemSeen) (first : ℕ) (workers : List WorkerLines) (passes : List SystemPass) : Type 0 where
  pub many : length passes ≡ length workers
  pub few : first + length workers ≤ CALLERS
  pub ready : All (IsReady system.plan) workers
  pub fresh : AreFresh system first workers passes
