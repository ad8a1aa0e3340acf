-- Swaps, to a layout, to the dead one, or to the present one with a layer or without it: their stages, their answers, and what
-- holds one up.
use Rattle.std.specs.Prelude.{◌≡◌, ◌≢◌, ◌⊎◌, ◌↔◌, ℕ, ◌+◌, ◌-◌, ◌<◌, ◌≤◌, Bool, true, false, ⊤, List, [], ◌∷◌, ◌++◌, length, Option, Some, None, Result, Err, IfOk}
use Rattle.gen_core.specs.Events as graces
use Rattle.k42_kinds.specs.declared.entry.Act.{Act}
use Rattle.k42_kinds.specs.declared.entry.Act.TheVariants as acts
use Rattle.k42_kinds.specs.declared.entry.To.{To}
use Rattle.k42_shapes.specs.declared.shape.Shape.{Shape}
use Rattle.k42_kinds.specs.declared.entry.Answer.{Answer}
use Rattle.k42_kinds.specs.declared.entry.Answer.TheVariants as answers
use Rattle.k42_kinds.specs.declared.entry.Entry.{Entry}
use Rattle.phase_core.specs.declared.caller.SwapAt.TheVariants.{Interposed, Draining, Blocking, Opened}
use Rattle.k42_joined.specs.Numbers.{cell_of}
use Rattle.k42_limits.specs.declared.TheConstants.{CALLERS, PASS_ENTRIES, PASS_GRACES}
use Rattle.k42_board.specs.Log.{Follows, Extends, EndsWith, step_at}
use Rattle.k42_board.specs.Seen.{HasRoom, PassSeen}
use Rattle.k42_board.specs.Swapping.{object_swapped, clears, IsRestored}
use Rattle.k42_board.specs.Tabling.{is_over_in}
use Rattle.k42_board.specs.Values.{count_in, incarnation_in}
use Rattle.k42_board.specs.Views.{object_begun, word_begun}
use Rattle.k42_board.specs.Words.{lock_word, object_word, role_word}
use Rattle.k42_board.specs.declared.view.PassView.{PassView}
use Rattle.k42_board.specs.declared.view.StepName.TheVariants as names
use Rattle.k42_board.specs.declared.view.Taken.{Taken}
use Rattle.k42_mediator.specs.Answers.{begun_in}
use Rattle.k42_mediator.specs.Entries.{IsNext}
use Rattle.k42_mediator.specs.Marks.{MayMark, cell_marked}
use Rattle.k42_mediator.specs.declared.answers.Begun.{Begun}
use Rattle.k42_mediator.specs.declared.answers.Begun.TheVariants as begins
use Rattle.k42_quiesce.specs.Gracing.{MayStep, IsLeft}
use Rattle.k42_runtime.specs.Calls.{IsWorn}
use Rattle.k42_runtime.specs.Systems.{SystemSeen, IsPassHere, IsAtRest, live_in}
use Rattle.k42_runtime.specs.declared.swaps.Cause.{Cause}
use Rattle.k42_runtime.specs.declared.swaps.Cause.TheVariants as causes
use Rattle.k42_runtime.specs.declared.swaps.NoSwap.{NoSwap}
use Rattle.k42_runtime.specs.declared.swaps.NoSwap.TheVariants as reasons
use Rattle.k42_runtime.specs.declared.swaps.Stage.{Stage}
use Rattle.k42_runtime.specs.declared.swaps.Stage.TheVariants as stages
use Rattle.k42_runtime.specs.declared.swaps.Step.{Step}
use Rattle.k42_runtime.specs.declared.swaps.Step.TheVariants as steps
use Rattle.k42_runtime.specs.declared.swaps.Swapped.{Swapped}
use Rattle.k42_runtime.specs.declared.swaps.Swapped.TheVariants as ends

-- a swap: of which object, to what, how far it is, and the caller that has the role for its grace
pub record SwapSeen : Type 0 where
  pub object : ℕ
  pub to : To
  pub stage : Stage
  pub holder : Option ℕ

-- the answer in the entry
abbrev pub answer_told : {R : Type 0} → Swapped → Answer R
answer_told (ends.Done number) = answers.Swapped number
answer_told (ends.Busy number) = answers.Busy number
answer_told ends.Spent = answers.Spent
answer_told ends.Gone = answers.Gone

-- a swap of one of so many objects is under way, and the pass has room for its entry and its row
pub record IsUnderWay (objects object : ℕ) {P O R : Type 0} (pass : PassSeen P O R) : Type 0 where
  pub there : object < objects
  pub entry : HasRoom pass
  pub row : 0 < pass.row_room
  pub few : length pass.view.taker.mine < PASS_ENTRIES

-- a pass that may begin a swap
pub record MayStart (objects object : ℕ) {P O R : Type 0} (pass : PassSeen P O R) : Type 0 where
  pub rests : IsAtRest pass.view
  pub there : object < objects

-- it has drawn all the entries that a pass draws, or has begun all its graces
abbrev pub IsWornOut : {P O R : Type 0} → PassView P O R → Type 0
IsWornOut v = IsWorn v ⊎ (PASS_GRACES ≤ v.graces)

-- the swap waits for a grace, which has not begun or has the role
abbrev pub IsWaiting : {P O R : Type 0} → ℕ → Option ℕ → PassView P O R → Type 0
IsWaiting object None v = (v.visitor.swap ≡ Interposed object) × MayStep None v
IsWaiting object (Some holder) v =
    (v.visitor.swap ≡ Draining object) × (v.turn.active ≡ None) × MayStep (Some holder) v

-- its Begin found the object, which has so many live layouts, free, alive and with an incarnation left
abbrev pub HasFoundFree : {P O R : Type 0} → ℕ → PassView P O R → Type 0
HasFoundFree live v = begun_in live (word_begun v.last) ≡ begins.Begun

-- it has blocked its object, and waits for those who are counted
pub record IsShut {P O R : Type 0} (object : ℕ) (v : PassView P O R) : Type 0 where
  pub inactive : v.turn.active ≡ None
  pub grace : graces.is_idle v.turn.grace ≡ true
  pub swap : v.visitor.swap ≡ Blocking object

-- it found its object over, and has not told so yet
pub record IsToMark {P O R : Type 0} (object : ℕ) (act : Act O) (v : PassView P O R) : Type 0 where
  pub rests : IsAtRest v
  pub begun : object_begun v.last ≡ object
  pub may : MayMark act v

-- The pass is as the last step of the swap left it, where the objects' live layouts have these shapes.
abbrev pub IsAtStage : {P O R : Type 0} → Stage → List (List Shape) → SwapSeen → PassSeen P O R → Type 0
IsAtStage stages.New shapes swap pass = (swap.holder ≡ None) × MayStart (length shapes) swap.object pass
IsAtStage stages.Waiting shapes swap pass =
    IsUnderWay (length shapes) swap.object pass × HasFoundFree (live_in shapes swap.object) pass.view
    × IsWaiting swap.object swap.holder pass.view
IsAtStage stages.Shut shapes swap pass =
    IsUnderWay (length shapes) swap.object pass × HasFoundFree (live_in shapes swap.object) pass.view
    × IsShut swap.object pass.view
IsAtStage stages.Marking shapes swap pass =
    IsUnderWay (length shapes) swap.object pass × IsToMark swap.object (acts.Swap swap.to) pass.view
IsAtStage stages.Over shapes swap pass = IsAtRest pass.view

abbrev pub is_over : Stage → Bool
is_over stages.Over = true
is_over stage = false

-- whether a step ends its swap
abbrev pub is_last : Step → Bool
is_last (steps.Again cause) = false
is_last (steps.Ended end) = true
is_last steps.Memory = true
is_last steps.Worn = true

-- how many graces the swap may still begin
abbrev pub graces_due : Stage → Option ℕ → ℕ
graces_due stages.New holder = 1
graces_due stages.Waiting None = 1
graces_due stage holder = 0

-- By what its Begin was answered a swap ends so
abbrev pub IsEndTo : Begun → ℕ → Swapped → Type 0
IsEndTo begins.Begun word (ends.Done number) = number ≡ incarnation_in word + 1
IsEndTo (begins.Busy number phase) word (ends.Busy told) = told ≡ number
IsEndTo begins.Spent word ends.Spent = ⊤
IsEndTo begins.Gone word ends.Gone = ⊤
IsEndTo answer word end = ⊥

-- and may be held up so
abbrev pub MayHoldUp : Begun → Cause → Type 0
MayHoldUp begins.Begun (causes.CellHeld holder) = ⊥
MayHoldUp begins.Begun cause = ⊤
MayHoldUp begins.Spent (causes.CellHeld holder) = ⊤
MayHoldUp begins.Gone (causes.CellHeld holder) = ⊤
MayHoldUp answer cause = ⊥

-- the word that its Begin found decides, and how many live layouts there are, but for want of memory
abbrev pub IsEndBy : ℕ → ℕ → Swapped → Type 0
IsEndBy live word end = IsEndTo (begun_in live word) word end

abbrev pub IsStepBy : ℕ → ℕ → Step → Type 0
IsStepBy live word (steps.Ended end) = IsEndBy live word end
IsStepBy live word (steps.Again cause) = MayHoldUp (begun_in live word) cause
IsStepBy live word steps.Memory = ⊤
IsStepBy live word steps.Worn = ⊤

-- it is the same caller, on its processor
pub record IsSameCaller {P O R : Type 0} (old new : PassView P O R) : Type 0 where
  pub number : new.number ≡ old.number
  pub proc : new.turn.proc ≡ old.turn.proc

-- the incarnation that the entry tells: that of the word found, or the one that the other swap ends
abbrev pub incarnation_told : Swapped → ℕ → ℕ
incarnation_told (ends.Busy number) word = number - 1
incarnation_told end word = incarnation_in word

-- and the cell: the first one of the new row, none, or the first one of the row that is over
abbrev pub cell_told : ℕ → Swapped → ℕ → ℕ
cell_told object (ends.Done number) word = cell_of object number 0
cell_told object (ends.Busy number) word = 0
cell_told object end word = cell_of object (incarnation_in word) 0

-- The pass has one entry more, that of the swap.
pub record HasSwapped {P O R : Type 0} (object : ℕ) (to : To) (end : Swapped) (old new : PassView P O R) : Type 0 where
  pub begun : object_begun new.last ≡ object
  pub entry : Entry O R
  pub next :
      IsNext old object (incarnation_told end (word_begun new.last)) (cell_told object end (word_begun new.last))
      (acts.Swap to) (answer_told end) entry
  pub drawn : new.taker.mine ≡ old.taker.mine ++ entry ∷ []

-- nothing was begun: at most it has collected rows, and has handed rows over
abbrev pub HasNotBegun : {P O R : Type 0} → PassView P O R → PassView P O R → Type 0
HasNotBegun old new = new ≡ record old { rows = new.rows; granted = new.granted }

-- What held a swap up: what the last step found that the pass has taken since.

-- so many callers that the mediator of its object counts
pub record IsInFlight {P O R : Type 0} (count : ℕ) (old new : PassView P O R) : Type 0 where
  pub found : ℕ
  pub moved : EndsWith (step_at names.Move (object_word (object_swapped new)) found) old.log new.log
  pub count_is : count ≡ count_in found
  pub some : 0 < count

-- the first cell of the row that is over, with another caller
pub record IsCellHeld {P O R : Type 0} (live holder : ℕ) (old new : PassView P O R) : Type 0 where
  pub over : is_over_in live (word_begun new.last) ≡ true
  pub locked : EndsWith (step_at names.Lock (lock_word (cell_marked new)) (holder + 1)) old.log new.log
  pub another : holder ≢ new.number
  pub caller : holder < CALLERS

-- the role, with another caller
pub record IsRoleElsewhere {P O R : Type 0} (holder : ℕ) (old new : PassView P O R) : Type 0 where
  pub tried : EndsWith (step_at names.TakeRole role_word (holder + 1)) old.log new.log
  pub another : holder ≢ new.number
  pub caller : holder < CALLERS

abbrev pub IsHeldUpBy : {P O R : Type 0} → ℕ → Cause → PassView P O R → PassView P O R → Type 0
IsHeldUpBy live (causes.Left proc left) old new = IsLeft proc left old new
IsHeldUpBy live (causes.RoleHeld holder) old new = IsRoleElsewhere holder old new
IsHeldUpBy live (causes.InFlight count) old new = IsInFlight count old new
IsHeldUpBy live (causes.CellHeld holder) old new = IsCellHeld live holder old new

-- A swap that had begun was given up, which its entry tells. The last of its steps has ended it, and has left the object as
-- it was when the swap began.
pub record HasAbandoned {P O R : Type 0} (live object : ℕ) (to : To) (old new : PassView P O R) : Type 0 where
  pub begun : object_begun new.last ≡ object
  pub free : HasFoundFree live new
  pub entry : Entry O R
  pub next :
      IsNext old object (incarnation_in (word_begun new.last)) 0 (acts.Swap to)
      (answers.Abandoned (incarnation_in (word_begun new.last) + 1)) entry
  pub drawn : new.taker.mine ≡ old.taker.mine ++ entry ∷ []
  pub log : List Taken
  pub since : Follows old.log log
  pub found : ℕ
  pub cleared : new.log ≡ step_at names.Clear (object_word object) found ∷ log
  pub restored : IsRestored (word_begun new.last) (clears (Opened object) found)

-- A step that finds no memory is the first, and has done nothing, or it gives the swap up.
abbrev pub StepsWithoutMemory : {P O R : Type 0} → ℕ → Stage → ℕ → To → PassView P O R → PassView P O R → Type 0
StepsWithoutMemory live stage object to old new =
    ((stage ≡ stages.New) × (new ≡ old)) ⊎ HasAbandoned live object to old new

-- and so ends a swap that was waited for
abbrev pub EndsWithoutMemory : {P O R : Type 0} → ℕ → ℕ → To → PassView P O R → PassView P O R → Type 0
EndsWithoutMemory live object to old new = HasNotBegun old new ⊎ HasAbandoned live object to old new

-- what a step of a swap brings, by its answer
abbrev pub HasBrought : {P O R : Type 0} → ℕ → Step → SwapSeen → PassSeen P O R → PassSeen P O R → Type 0
HasBrought live (steps.Ended end) swap old new =
    HasSwapped swap.object swap.to end old.view new.view × Extends old.view.log new.view.log
HasBrought live (steps.Again cause) swap old new =
    (new.view.taker.mine ≡ old.view.taker.mine) × IsHeldUpBy live cause old.view new.view
HasBrought live steps.Memory swap old new =
    StepsWithoutMemory live swap.stage swap.object swap.to old.view new.view
HasBrought live steps.Worn swap old new = new ≡ old

-- The swap and its pass, once a step has answered so, are where the next one goes on, unless it was the last. Only the first
-- step of a swap finds its pass worn out.
pub record HasStepped
    {L P O R : Type 0} (system : SystemSeen L) (result : Step) (s t : SwapSeen) (old new : PassSeen P O R)
    : Type 0 where
  pub here : IsPassHere system new
  pub stage : IsAtStage t.stage system.sys.shapes t new
  pub begun : t.stage ≢ stages.New
  pub over : is_over t.stage ≡ is_last result
  pub object : t.object ≡ s.object
  pub to : t.to ≡ s.to
  pub seat : new.seat ≡ old.seat
  pub keep : new.keep ≡ old.keep
  pub caller : IsSameCaller old.view new.view
  pub graces :
      new.view.graces + graces_due t.stage t.holder ≤ old.view.graces + graces_due s.stage s.holder
  pub told : IsStepBy (live_in system.sys.shapes s.object) (word_begun new.view.last) result
  pub worn : (result ≡ steps.Worn) ↔ ((s.stage ≡ stages.New) × IsWornOut old.view)
  pub brought : HasBrought (live_in system.sys.shapes s.object) result s old new

-- the pass once a swap has ended that was waited for
pub record HasEnded
    {L P O R : Type 0} (system : SystemSeen L) (object : ℕ) (to : To) (result : Result Swapped NoSwap) (old new : PassSeen P O R)
    : Type 0 where
  pub here : IsPassHere system new
  pub rests : IsAtRest new.view
  pub seat : new.seat ≡ old.seat
  pub keep : new.keep ≡ old.keep
  pub caller : IsSameCaller old.view new.view
  pub graces : new.view.graces ≤ old.view.graces + 1
  pub told : IfOk result (IsEndBy (live_in system.sys.shapes object) (word_begun new.view.last))
  pub ended : IfOk result (λ end. HasSwapped object to end old.view new.view)
  pub memory : result ≡ Err reasons.Memory → EndsWithoutMemory (live_in system.sys.shapes object) object to old.view new.view
  pub worn : (result ≡ Err reasons.Worn) ↔ IsWornOut old.view
  pub kept : result ≡ Err reasons.Worn → HasNotBegun old.view new.view
