use Rattle.std.proofs.Common.{◌≡◌}
use Rattle.phase_core.specs.Sound.{IsSound}
use Rattle.phase_tests.proofs.tests.answered.Given as goal

abbrev pub invariant-loop-step : goal.invariant-loop-step
invariant-loop-step g l = IsSound l.state × (l.count ≡ l.step-index)
