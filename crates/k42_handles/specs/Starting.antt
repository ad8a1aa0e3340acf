-- A system that is started by numbers, and its passes in handles.
use Rattle.std.specs.Prelude.{◌≡◌, ◌⊎◌, ℕ, ◌==◌, ⊤, if◌then◌else◌, List, [], ◌∷◌, ◌++◌, length, map, Option, Some, None, option_and_then, Result, Ok, Err}
use Rattle.std.specs.Arc.{arc_value}
use Rattle.std.specs.List.{list_any}
use Rattle.k42_board.specs.declared.keep.Keep.{Keep}
use Rattle.k42_kinds.specs.declared.operation.KindName.{KindName}
use Rattle.k42_kinds.specs.declared.operation.LayoutName.{LayoutName}
use Rattle.co_system.specs.Systems.{PlanSeen, SystemLayout, SystemPass, kept_as, plan_fault}
use Rattle.co_system.specs.Systems as systems
use Rattle.k42_runtime.specs.declared.plan.PlanFault.{PlanFault}
use Rattle.k42_handles.specs.Codes.{keep_named, kind_named, layout_named}
use Rattle.k42_handles.specs.Handles.{is_full, seat_of}
use Rattle.k42_handles.specs.declared.held.K42Pass.{K42Pass}
use Rattle.k42_handles.specs.declared.home.Home.{Home}
use Rattle.k42_handles.specs.declared.plain.K42Object.{K42Object}
use Rattle.k42_handles.specs.declared.refusal.Refusal.{Refusal}
use Rattle.k42_handles.specs.declared.refusal.Refusal.TheVariants.{Argument, Full, Memory, Plan}
use Rattle.k42_handles.specs.declared.seat.Rests.{Rests as Resting}
use Rattle.k42_handles.specs.declared.seat.Seat.{Seat}
use Rattle.k42_handles.specs.declared.seat.Seat.TheVariants.{Gone, Rests}

abbrev pub object_by : Option KindName → Option LayoutName → Option SystemLayout
object_by (Some kind) (Some layout) = Some (kept_as kind layout)
object_by _ _ = None

abbrev pub object_coded : K42Object → Option SystemLayout
object_coded object = object_by (kind_named object.kind) (layout_named object.layout)

-- the plans of these objects behind others, if each of them is one
abbrev pub objects_coded : List SystemLayout → List K42Object → Option (List SystemLayout)
objects_coded plans [] = Some plans
objects_coded plans (object ∷ objects) =
    option_and_then (λ plan. objects_coded (plans ++ plan ∷ []) objects) (object_coded object)

-- a plan, or its first fault
abbrev pub plan_or : Option PlanFault → PlanSeen → Result PlanSeen Refusal
plan_or (Some fault) plan = Err (Plan fault)
plan_or None plan = Ok plan

abbrev pub plan_by : ℕ → Option (List SystemLayout) → List ℕ → Option Keep → Result PlanSeen Refusal
plan_by procs (Some objects) homes (Some keep) =
    plan_or (plan_fault procs objects homes) (record { procs = procs; objects = objects; callers = homes; keep = keep })
plan_by procs _ homes _ = Err Argument

abbrev pub plan_coded : ℕ → List K42Object → List ℕ → ℕ → Result PlanSeen Refusal
plan_coded procs objects homes keep = plan_by procs (objects_coded [] objects) homes (keep_named keep)

-- for these handles, which are empty and as many
abbrev pub plan_for : ℕ → List K42Object → List ℕ → ℕ → List K42Pass → Result PlanSeen Refusal
plan_for procs objects homes keep handles =
    if list_any is_full handles then Err Full
    else if length handles == length homes then plan_coded procs objects homes keep
    else Err Argument

-- the handles are empty
abbrev pub AreGone : List K42Pass → Type 0
AreGone [] = ⊤
AreGone (handle ∷ handles) = (seat_of handle ≡ Gone) × AreGone handles

-- the seat has this pass of the home, with nothing under way
pub record IsSeated (home : Home) (pass : SystemPass) (seat : Seat) : Type 0 where
  pub rests : Resting
  pub seat_is : seat ≡ Rests rests
  pub home_is : arc_value rests.home ≡ home
  pub pass_is : rests.pass.value ≡ pass

-- the handles have these passes, in order
abbrev pub SitIn : Home → List SystemPass → List K42Pass → Type 0
SitIn home [] [] = ⊤
SitIn home (pass ∷ passes) (handle ∷ handles) = IsSeated home pass (seat_of handle) × SitIn home passes handles
SitIn home _ _ = ⊥

-- a new system of the plan has its passes in these handles
pub record HasStartedInto (plan : PlanSeen) (handles : List K42Pass) : Type 0 where
  pub home : Home
  pub passes : List SystemPass
  pub started : systems.HasStarted plan home.system passes
  pub sit : SitIn home passes handles

-- There is a system of the plan, or it is told why there is none, and the handles hold what they held.
abbrev pub HasStarted : ℕ → List K42Object → List ℕ → ℕ → List K42Pass → List K42Pass → Result (Unit {0}) Refusal → Type 0
HasStarted procs objects homes keep old new (Ok done) =
    (plan : PlanSeen) × (plan_for procs objects homes keep old ≡ Ok plan) × HasStartedInto plan new
HasStarted procs objects homes keep old new (Err why) =
    (plan_for procs objects homes keep old ≡ Err why ⊎ why ≡ Memory) × (map seat_of new ≡ map seat_of old)
