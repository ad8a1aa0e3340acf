use Rattle.table_crews.specs.Ready.{HoldsNoCell, IsServing}
use Rattle.thread_tests.proofs.tests.steps.step.Given as goal

abbrev pub invariant-loop : goal.invariant-loop
invariant-loop g l = HoldsNoCell l.sys l.pass × IsServing l.pass.view
