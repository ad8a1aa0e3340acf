use Rattle.k42_crews.specs.Ready.{IsFree}
use Rattle.runtime_tests.proofs.tests.watching.follow.Given as goal

abbrev pub invariant-loop-deed : goal.invariant-loop-deed
invariant-loop-deed g l = IsFree l.system l.pass
