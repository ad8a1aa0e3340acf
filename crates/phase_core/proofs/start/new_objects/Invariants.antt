use Rattle.std.proofs.Common.{◌≡◌, ◌++◌, length, map}
use Rattle.std.specs.Vec.Iter.{into_iter_items, into_iter_len}
use Rattle.phase_core.specs.State.{new_object}
use Rattle.phase_core.proofs.start.new_objects.Given as goal

abbrev pub invariant-loop-plan : goal.invariant-loop-plan
invariant-loop-plan l = record {
  made : l.list.items ≡ map (new_object l.procs) l.yielded;
  left : l.yielded ++ into_iter_items l.plan-iterator ≡ into_iter_items l.initial.plan-iterator;
  many : into_iter_len l.plan-iterator ≡ length (into_iter_items l.plan-iterator);
}
