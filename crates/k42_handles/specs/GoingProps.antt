-- That a pass goes on with what it has under way is a proposition.
use Rattle.std.proofs.Common.{ℕ, List, Option, Some, None}
use Rattle.std.proofs.Props.{props}
use Rattle.k42_board.specs.declared.view.PassView.{PassView}
use Rattle.k42_runtime.specs.Swaps.{SwapSeen, IsAtStage, IsWaiting}
use Rattle.co_system.specs.Systems.{SystemSeen, SystemPart, SystemPass}
use Rattle.k42_runtime.specs.declared.swaps.Stage.{Stage}
use Rattle.k42_runtime.specs.declared.swaps.Stage.TheVariants as stages
use Rattle.k42_handles.specs.FreeProps.{op_set, part_set, reply_set, shape_set}
use Rattle.k42_quiesce.specs.Gracing.{MayStep}
use Rattle.k42_handles.specs.Going.{IsForAll, IsReclaiming, IsSwapping, Leads}
use Rattle.k42_shapes.specs.declared.shape.Shape.{Shape}
use Rattle.k42_kinds.specs.declared.entry.To.{To}
use Rattle.k42_kinds.specs.declared.entry.To.TheVariants as tos
use Rattle.k42_kinds.specs.declared.operation.Op.{Op}
use Rattle.k42_kinds.specs.declared.operation.Reply.{Reply}

IsWaiting-prop : (object : ℕ) (holder : Option ℕ) (v : PassView SystemPart Op Reply) → IsProp (IsWaiting object holder v)
IsWaiting-prop object None v = hlevel (props, part_set, op_set, reply_set, shape_set)
IsWaiting-prop object (Some holder) v = hlevel (props, part_set, op_set, reply_set, shape_set)

IsAtStage-prop : (stage : Stage) (shapes : List (List Shape)) (swap : SwapSeen) (pass : SystemPass) → IsProp (IsAtStage stage shapes swap pass)
IsAtStage-prop stages.New shapes swap pass = hlevel (props, part_set, op_set, reply_set, shape_set)
IsAtStage-prop stages.Waiting shapes swap pass = hlevel (props, part_set, op_set, reply_set, shape_set, IsWaiting-prop swap.object swap.holder pass.view)
IsAtStage-prop stages.Shut shapes swap pass = hlevel (props, part_set, op_set, reply_set, shape_set)
IsAtStage-prop stages.Marking shapes swap pass = hlevel (props, part_set, op_set, reply_set, shape_set)
IsAtStage-prop stages.Over shapes swap pass = hlevel (props, part_set, op_set, reply_set, shape_set)

Leads-prop : (to : To) → IsProp (Leads to)
Leads-prop (tos.Layout number) = hlevel props
Leads-prop tos.Dead = hlevel props
Leads-prop tos.Watch = hlevel props
Leads-prop tos.Unwatch = hlevel props

pub IsSwapping-prop : (system : SystemSeen) (swap : SwapSeen) (pass : SystemPass) → IsProp (IsSwapping system swap pass)
IsSwapping-prop system swap pass = hlevel (props, part_set, op_set, reply_set, shape_set, IsAtStage-prop swap.stage system.sys.shapes swap pass, Leads-prop swap.to)

MayStep-prop : (grace : Option ℕ) (v : PassView SystemPart Op Reply) → IsProp (MayStep grace v)
MayStep-prop None v = hlevel (props, part_set, op_set, reply_set, shape_set)
MayStep-prop (Some holder) v = hlevel (props, part_set, op_set, reply_set, shape_set)

IsForAll-prop : (grace : Option ℕ) (v : PassView SystemPart Op Reply) → IsProp (IsForAll grace v)
IsForAll-prop None v = hlevel (props, part_set, op_set, reply_set, shape_set)
IsForAll-prop (Some holder) v = hlevel (props, part_set, op_set, reply_set, shape_set)

pub IsReclaiming-prop : (system : SystemSeen) (grace : Option ℕ) (pass : SystemPass) → IsProp (IsReclaiming system grace pass)
IsReclaiming-prop system grace pass = hlevel (props, part_set, op_set, reply_set, shape_set, MayStep-prop grace pass.view, IsForAll-prop grace pass.view)
