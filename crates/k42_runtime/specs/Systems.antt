-- A system, and its passes between two of their calls.
use Rattle.std.specs.Prelude.{◌≡◌, ℕ, Bool, true, List, [], length, is_some, nat_lt, slice_get, slice_index, slice_index_or, Some}
use Rattle.gen_core.specs.Events as graces
use Rattle.k42_shapes.specs.declared.shape.Shape.{Shape}
use Rattle.k42_kinds.specs.declared.entry.To.{To}
use Rattle.k42_places.specs.Places.{EachPlace}
use Rattle.phase_core.specs.Stages as swaps
use Rattle.phase_core.specs.Stages.{is_out}
use Rattle.k42_board.specs.Plan.{LayoutWords, layouts_of}
use Rattle.k42_board.specs.Seen.{SysSeen, PassSeen, IsPassOf, is_at_rest, keeping, own_in}
use Rattle.k42_board.specs.Views.{new_pass}
use Rattle.k42_board.specs.declared.view.PassView.{PassView}
use Rattle.k42_rule.specs.Opened.{IsOpened}
use Rattle.k42_runtime.specs.Plans.{PlanSeen, IsSoundPlan}

-- the running table, and the plan with which it was started
pub record SystemSeen (L : Type 0) : Type 0 where
  pub sys : SysSeen L
  pub plan : PlanSeen L

-- whether a layout is live, by what its type says
abbrev pub is_live_by : {L : Type 0} → (L → List Shape) → (L → ℕ) → L → Bool
is_live_by shapes_of tag_of layout = nat_lt (tag_of layout) (length (shapes_of layout))

-- how many live layouts an object has, by the shapes of all
abbrev pub live_in : List (List Shape) → ℕ → ℕ
live_in shapes object = length (slice_index_or shapes object [])

-- the table is the plan's
pub record IsPlanned {L : Type 0} (is_live : L → Bool) (system : SystemSeen L) : Type 0 where
  pub sound : IsSoundPlan is_live system.plan
  pub procs : system.sys.procs ≡ system.plan.procs
  pub layouts : system.sys.layouts ≡ system.plan.objects
  pub shaped : length system.sys.shapes ≡ length system.plan.objects
  pub callers : system.sys.callers ≡ system.plan.callers
  pub keep : system.sys.keep ≡ system.plan.keep

-- a swap of the object may lead there
abbrev pub MayLead : {L : Type 0} → (L → To → Type 0) → List L → ℕ → To → Type 0
MayLead {L} leads objects object to = (declaration : L) → slice_get objects object ≡ Some declaration → leads declaration to

-- the pass is one of the system, is inside no call, and holds no cell
pub record IsPassHere {L P O R : Type 0} (system : SystemSeen L) (pass : PassSeen P O R) : Type 0 where
  pub ours : IsPassOf system.sys pass
  pub out : is_out pass.view.visitor.place ≡ true
  pub held : pass.view.taker.held ≡ []
  pub notes : pass.view.notes ≡ []

-- it is in an activity, and no grace and no swap of it is under way
pub record IsAtWork {P O R : Type 0} (v : PassView P O R) : Type 0 where
  pub active : is_some v.turn.active ≡ true
  pub grace : graces.is_idle v.turn.grace ≡ true
  pub swap : swaps.is_idle v.visitor.swap ≡ true

-- it has nothing under way
abbrev pub IsAtRest : {P O R : Type 0} → PassView P O R → Type 0
IsAtRest v = is_at_rest v ≡ true

-- of what a pass keeps by itself, only its entries, its clock, its place and the layout that it last learned may be others
abbrev pub KeepsElse : {P O R : Type 0} → PassView P O R → PassView P O R → Type 0
KeepsElse old new =
    own_in new ≡ record (own_in old) {
      place = new.visitor.place;
      layout = new.layout;
      drawn = length new.taker.mine;
      clock = new.taker.clock;
    }

-- a pass that has done nothing
pub record IsFirst {L P O R : Type 0} (system : SystemSeen L) (c home : ℕ) (pass : PassSeen P O R) : Type 0 where
  pub here : IsPassHere system pass
  pub new : pass.view ≡ new_pass system.plan.procs system.sys.shapes c home
  pub rows : pass.row_room ≡ 64
  pub keep : pass.keep ≡ keeping system.plan.keep

-- a system of the plan, and its passes in the order of callers; the table was opened with all objects empty and at their
-- first incarnation, and nobody has done anything
pub record HasStarted
    {S L P O R : Type 0} (words : LayoutWords S L P O R) (plan : PlanSeen L) (system : SystemSeen L) (passes : List (PassSeen P O R))
    : Type 0 where
  pub plan_is : system.plan ≡ plan
  pub planned : IsPlanned (is_live_by words.shapes words.tag_of) system
  pub opened : IsOpened (layouts_of words plan.procs plan.callers) plan.objects plan.callers
  pub many : length passes ≡ length plan.callers
  pub each : EachPlace (λ c pass. IsFirst system c (slice_index plan.callers c) pass) passes
