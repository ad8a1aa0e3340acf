-- What a system is made of, and what is wrong with a plan.
use Rattle.std.specs.Prelude.{◌≡◌, true, ℕ, ◌+◌, ◌<◌, ◌≤◌, Bool, ◌&&◌, if◌then◌else◌, List, [], ◌∷◌, length, nat_lt, nat_le, Option, Some, None}
use Rattle.k42_limits.specs.declared.TheConstants.{PROCESSORS, OBJECTS, CALLERS}
use Rattle.gen_core.specs.State as gens
use Rattle.k42_board.specs.declared.keep.Keep.{Keep}
use Rattle.k42_places.specs.Places.{EachPlace}
use Rattle.k42_runtime.specs.declared.plan.PlanFault.{PlanFault}
use Rattle.k42_runtime.specs.declared.plan.PlanFault.TheVariants as faults

-- so many processors, objects each in a layout, callers each on a processor, and which entries are kept
pub record PlanSeen (L : Type 0) : Type 0 where
  pub procs : ℕ
  pub objects : List L
  pub callers : List ℕ
  pub keep : Keep

-- there is one or more, and not too many
abbrev pub is_within : ℕ → ℕ → Bool
is_within limit count = nat_lt 0 count && nat_le count limit

-- the first caller on no processor; callers are counted from a first one
abbrev pub stray_from : ℕ → ℕ → List ℕ → Option PlanFault
stray_from procs first [] = None
stray_from procs first (home ∷ homes) =
    if nat_lt home procs then stray_from procs (first + 1) homes else Some (faults.Processor first)

-- the first object that would start in no live layout; objects are counted from a first one
abbrev pub dead_from : {L : Type 0} → (L → Bool) → ℕ → List L → Option PlanFault
dead_from is_live first [] = None
dead_from is_live first (layout ∷ layouts) =
    if is_live layout then dead_from is_live (first + 1) layouts else Some (faults.Dead first)

-- the first fault, or else the other
abbrev pub or_else : Option PlanFault → Option PlanFault → Option PlanFault
or_else (Some fault) other = Some fault
or_else None other = other

-- the first fault of a plan, in this order
abbrev pub plan_fault : {L : Type 0} → (L → Bool) → ℕ → List L → List ℕ → Option PlanFault
plan_fault is_live procs objects callers =
    if is_within PROCESSORS procs
    then if is_within OBJECTS (length objects)
    then if is_within CALLERS (length callers)
    then or_else (stray_from procs 0 callers) (dead_from is_live 0 objects)
    else Some faults.Callers
    else Some faults.Objects
    else Some faults.Procs

-- a plan without a fault
pub record IsSoundPlan {L : Type 0} (is_live : L → Bool) (plan : PlanSeen L) : Type 0 where
  pub turns : gens.IsPlan plan.procs plan.callers
  pub some_objects : 0 < length plan.objects
  pub few_objects : length plan.objects ≤ OBJECTS
  pub live : EachPlace (λ o layout. is_live layout ≡ true) plan.objects
