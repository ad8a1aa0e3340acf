-- Systems of the three kinds, whose objects can be watched.
use Rattle.std.specs.Prelude.{ℕ, Bool, List, length, map, nat_le, Option}
use Rattle.k42_runtime.specs.declared.plan.PlanFault.{PlanFault}
use Rattle.k42_shapes.specs.declared.shape.Shape.{Shape}
use Rattle.k42_shapes.specs.Shapes.{is_dead_tag, shared_and_spread}
use Rattle.k42_kinds.specs.OneThread.{OneThread}
use Rattle.k42_kinds.specs.Operations.{layout_number}
use Rattle.k42_kinds.specs.Watched.{seen_asking, watched_object}
use Rattle.k42_kinds.specs.declared.entry.Entry.{Entry}
use Rattle.k42_kinds.specs.declared.entry.To.{To}
use Rattle.k42_kinds.specs.declared.operation.KindName.{KindName}
use Rattle.k42_kinds.specs.declared.operation.LayoutName.{LayoutName}
use Rattle.k42_kinds.specs.declared.operation.Op.{Op}
use Rattle.k42_kinds.specs.declared.operation.Reply.{Reply}
use Rattle.k42_kinds.specs.declared.states.AnyState.{AnyState}
use Rattle.k42_kinds.specs.declared.watch.WatchState.{WatchState}
use Rattle.k42_stamp.specs.Layouts.{Layouts}
use Rattle.k42_watch.specs.WatchedRows.{Within, within, watched_ways, IsWatchedRow, LeadsWatched, ServesWatched, admitted_watched, watched_act}
use Rattle.k42_watch.specs.declared.watch.Layer.TheVariants.{Keep}
use Rattle.k42_watch.specs.declared.watch.Watch.{Watch}
use Rattle.k42_watch.specs.declared.watch.WatchPart.{WatchPart}
use Rattle.co_any.specs.Layouts.{ways_of, whole_of, serves_of, admitted_of, act_of, LeadsAny}
use Rattle.co_any.specs.declared.layout.AnyLayout.{AnyLayout}
use Rattle.co_any.specs.declared.part.AnyPart.{AnyPart}
use Rattle.k42_board.specs.Plan.{LayoutWords, layouts_of}
use Rattle.k42_board.specs.Seen.{PassSeen}
use Rattle.k42_runtime.specs.Calls as calls
use Rattle.k42_runtime.specs.Histories as histories
use Rattle.k42_runtime.specs.Plans as plans
use Rattle.k42_runtime.specs.Systems as systems

-- the layouts of all kinds, each with what becomes of the layer, the states for which they stand, and their parts
abbrev pub SystemLayout : Type 0
SystemLayout = Watch AnyLayout

abbrev pub SystemState : Type 0
SystemState = WatchState AnyState

abbrev pub SystemPart : Type 0
SystemPart = WatchPart AnyPart

abbrev pub SystemPass : Type 0
SystemPass = PassSeen SystemPart Op Reply

abbrev pub SystemSeen : Type 0
SystemSeen = systems.SystemSeen SystemLayout

abbrev pub PlanSeen : Type 0
PlanSeen = plans.PlanSeen SystemLayout

abbrev pub HistorySeen : Type 0
HistorySeen = histories.HistorySeen SystemLayout Op Reply

-- what such a layout is: whose watched object it keeps, under which tag, how, and what is asked for by a swap to it
abbrev pub object_in : SystemLayout → OneThread SystemState Op Reply
object_in layout = watched_object layout.inner.kind

abbrev pub shapes_in : SystemLayout → List Shape
shapes_in layout = shared_and_spread

abbrev pub tag_in : SystemLayout → ℕ
tag_in layout = layout.inner.tag

abbrev pub within_in : SystemLayout → Within
within_in layout = within shared_and_spread layout.inner.tag

abbrev pub dead_in : SystemLayout → Bool
dead_in layout = is_dead_tag shared_and_spread layout.inner.tag

abbrev pub all_in : LayoutWords SystemState SystemLayout SystemPart Op Reply
all_in = record {
  object = object_in;
  shapes = shapes_in;
  tag_of = tag_in;
  has_tag = λ layout tag. nat_le tag 2;
  ways = λ layout. watched_ways seen_asking (within_in layout) (ways_of layout.inner.kind layout.inner.tag);
  whole = λ layout procs. IsWatchedRow (within_in layout) (whole_of layout.inner.kind layout.inner.tag procs);
  serves = λ layout. ServesWatched (within_in layout) (serves_of layout.inner.kind layout.inner.tag);
  admitted = λ layout. admitted_watched (dead_in layout) layout.layer (admitted_of layout.inner.tag);
  act_of = λ layout. watched_act (dead_in layout) layout.layer (act_of layout.inner.tag);
  leads = λ layout. LeadsWatched LeadsAny;
}

-- how many live layouts an object has
abbrev pub LIVE : ℕ
LIVE = length shared_and_spread

abbrev pub is_live : SystemLayout → Bool
is_live = systems.is_live_by shapes_in tag_in

-- how an object starts, in a layout that has a name, and with no layer
abbrev pub kept_as : KindName → LayoutName → SystemLayout
kept_as kind layout = record { inner = record { kind = kind; tag = layout_number layout }; layer = Keep }

abbrev pub kinds_of : PlanSeen → List KindName
kinds_of plan = map (λ layout. layout.inner.kind) plan.objects

-- What is said of systems, for these kinds.

abbrev pub plan_fault : ℕ → List SystemLayout → List ℕ → Option PlanFault
plan_fault = plans.plan_fault is_live

abbrev pub IsSoundPlan : PlanSeen → Type 0
IsSoundPlan = plans.IsSoundPlan is_live

abbrev pub IsPlanned : SystemSeen → Type 0
IsPlanned = systems.IsPlanned is_live

abbrev pub HasStarted : PlanSeen → SystemSeen → List SystemPass → Type 0
HasStarted = systems.HasStarted all_in

abbrev pub IsAsked : PlanSeen → ℕ → Op → Type 0
IsAsked plan = calls.IsAsked object_in plan.objects

abbrev pub MayLead : PlanSeen → ℕ → To → Type 0
MayLead plan = systems.MayLead all_in.leads plan.objects

abbrev pub IsClosed : PlanSeen → List (List (Entry Op Reply)) → HistorySeen → Type 0
IsClosed = histories.IsClosed object_in

abbrev pub HasHistory : PlanSeen → List (List (Entry Op Reply)) → Type 0
HasHistory = histories.HasHistory object_in

abbrev pub any_layouts : ℕ → List ℕ → Layouts SystemState SystemLayout SystemPart Op Reply
any_layouts = layouts_of all_in

abbrev pub layouts_in : SystemSeen → Layouts SystemState SystemLayout SystemPart Op Reply
layouts_in system = any_layouts system.sys.procs system.sys.callers
