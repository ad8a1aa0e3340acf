-- That passes are free is a proposition.
use Rattle.std.proofs.Common.{List, [], ◌∷◌}
use Rattle.std.proofs.Props.{props}
use Rattle.std.specs.Coded.{×_prop, Unit-prop, Coded-set}
use Rattle.co_any.specs.contracts.part.AnyPart as any
use Rattle.k42_crews.specs.Ready.{IsFree, AreFree}
use Rattle.k42_kinds.specs.contracts.operation.Op as op
use Rattle.k42_kinds.specs.contracts.operation.Reply as reply
use Rattle.k42_kinds.specs.declared.operation.Op.{Op}
use Rattle.k42_kinds.specs.declared.operation.Reply.{Reply}
use Rattle.k42_shapes.specs.contracts.shape.Shape as shape
use Rattle.k42_shapes.specs.declared.shape.Shape.{Shape}
use Rattle.co_system.specs.Systems.{SystemSeen, SystemPart, SystemPass}
use Rattle.k42_watch.specs.contracts.watch.WatchPart as watched

pub part_set : IsSet SystemPart
part_set = Coded-set (watched.the_row any.the_row).coded

pub op_set : IsSet Op
op_set = Coded-set op.the_row.coded

pub reply_set : IsSet Reply
reply_set = Coded-set reply.the_row.coded

pub shape_set : IsSet Shape
shape_set = Coded-set shape.the_row.coded

IsFree-prop : (system : SystemSeen) (pass : SystemPass) → IsProp (IsFree system pass)
IsFree-prop system pass = hlevel (props, part_set, op_set, reply_set, shape_set)

pub AreFree-prop : (system : SystemSeen) (passes : List SystemPass) → IsProp (AreFree system passes)
AreFree-prop system [] = Unit-prop
AreFree-prop system (pass ∷ passes) = ×_prop (IsFree-prop system pass) (AreFree-prop system passes)
