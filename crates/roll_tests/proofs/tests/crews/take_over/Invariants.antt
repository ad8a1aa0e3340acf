use Rattle.k42_crews.specs.Ready.{AreFree}
use Rattle.roll_tests.proofs.tests.crews.take_over.Given as goal

abbrev pub invariant-loop : goal.invariant-loop
invariant-loop g l = AreFree l.system l.from.items × AreFree l.system l.to.items
