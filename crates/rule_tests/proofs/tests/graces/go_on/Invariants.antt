use Rattle.table_crews.specs.Ready.{HoldsNoCell}
use Rattle.rule_tests.proofs.tests.graces.go_on.Given as goal

abbrev pub invariant-loop : goal.invariant-loop
invariant-loop g l = HoldsNoCell l.sys l.pass
