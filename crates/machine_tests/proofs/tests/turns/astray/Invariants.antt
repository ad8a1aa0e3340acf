use Rattle.turn_core.specs.Sound.{IsSound}
use Rattle.machine_tests.proofs.tests.turns.astray.Given as goal

abbrev pub invariant-loop-asked : goal.invariant-loop-asked
invariant-loop-asked l = IsSound l.state
