use Rattle.std.proofs.Common.{◌≡◌, replicate}
use Rattle.phase_core.specs.State.{new_visitor}
use Rattle.phase_core.proofs.start.new_callers.Given as goal

abbrev pub invariant-loop : goal.invariant-loop
invariant-loop l = l.list.items ≡ replicate l.counter (new_visitor l.objects)
