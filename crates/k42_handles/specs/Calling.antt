-- What a pass at work is told of a call.
use Rattle.std.specs.Prelude.{◌≡◌, ℕ, ◌<◌, ◌≤◌, length, Result, Ok, Err}
use Rattle.std.specs.Arc.{arc_value}
use Rattle.k42_kinds.specs.declared.operation.Op.{Op}
use Rattle.k42_kinds.specs.declared.operation.Reply.{Reply}
use Rattle.k42_board.specs.declared.view.PassView.{PassView}
use Rattle.co_system.specs.Systems.{IsAsked}
use Rattle.k42_runtime.specs.Calls.{IsWorn, HasCalled, HasNotCalled}
use Rattle.co_system.specs.Systems.{PlanSeen}
use Rattle.co_system.specs.Systems.{SystemPart}
use Rattle.k42_handles.specs.declared.refusal.Refusal.{Refusal}
use Rattle.k42_handles.specs.declared.refusal.Refusal.TheVariants as refusals
use Rattle.k42_handles.specs.declared.seat.Works.{Works}

abbrev pub plan_of : Works → PlanSeen
plan_of works = (arc_value works.home).system.plan

abbrev pub view_of : Works → PassView SystemPart Op Reply
view_of works = works.pass.value.view

-- the call may be made
pub record MayCall (object : ℕ) (op : Op) (works : Works) : Type 0 where
  pub asked : IsAsked (plan_of works) object op
  pub fresh : ¬ IsWorn (view_of works)

-- when a pass at work is refused a call, and how
abbrev pub IsRefused : ℕ → Op → Works → Refusal → Type 0
IsRefused object op works refusals.Again = MayCall object op works
IsRefused object op works refusals.Memory = MayCall object op works
IsRefused object op works refusals.Worn = IsAsked (plan_of works) object op × IsWorn (view_of works)
IsRefused object op works refusals.Object = length (plan_of works).objects ≤ object
IsRefused object op works refusals.Kind =
    (object < length (plan_of works).objects) × ¬ IsAsked (plan_of works) object op
IsRefused object op works _ = ⊥

-- what a refusal leaves of it
abbrev pub IsLeftBy : Refusal → Works → Works → Type 0
IsLeftBy refusals.Again old new = HasNotCalled (view_of old) (view_of new)
IsLeftBy refusals.Memory old new = HasNotCalled (view_of old) (view_of new)
IsLeftBy _ old new = new ≡ old

-- The call was made and leaves one entry, or was refused and leaves none.
pub record HasServed (object : ℕ) (op : Op) (old new : Works) (told : Result Reply Refusal) : Type 0 where
  pub home : new.home ≡ old.home
  pub may : (reply : Reply) → told ≡ Ok reply → MayCall object op old
  pub called : (reply : Reply) → told ≡ Ok reply → HasCalled object op reply (view_of old) (view_of new)
  pub refused : (why : Refusal) → told ≡ Err why → IsRefused object op old why
  pub left : (why : Refusal) → told ≡ Err why → IsLeftBy why old new
