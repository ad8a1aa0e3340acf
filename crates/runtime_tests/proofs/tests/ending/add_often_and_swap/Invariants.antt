use Rattle.k42_crews.specs.Ready.{IsFree}
use Rattle.runtime_tests.proofs.tests.ending.add_often_and_swap.Given as goal

abbrev pub invariant-loop : goal.invariant-loop
invariant-loop g l = IsFree l.system l.pass
