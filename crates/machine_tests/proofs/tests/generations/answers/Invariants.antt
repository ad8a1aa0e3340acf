use Rattle.std.proofs.Common.{◌≡◌, length}
use Rattle.gen_core.specs.Sound.{IsSound}
use Rattle.machine_tests.proofs.tests.generations.answers.Given as goal

abbrev pub invariant-loop-event : goal.invariant-loop-event
invariant-loop-event l = IsSound l.state × (length l.state.procs ≡ 2) × (length l.state.callers ≡ 3)
