use Rattle.std.proofs.Common.{◌≡◌}
use Rattle.turn_core.specs.State.{fresh_callers}
use Rattle.turn_core.proofs.start.fresh_callers.Given as goal

abbrev pub invariant-loop : goal.invariant-loop
invariant-loop g l = l.list.items ≡ fresh_callers l.counter
