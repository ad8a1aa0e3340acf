use Rattle.std.proofs.Common.{◌≡◌}
use Rattle.k42_log.specs.Logs.{next_index}
use Rattle.log_tests.proofs.tests.log_of.Given as goal

abbrev pub invariant-loop-place : goal.invariant-loop-place
invariant-loop-place g l = next_index l.log ≡ l.place
