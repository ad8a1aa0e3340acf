use Rattle.table_crews.specs.Ready.{HoldsNoCell}
use Rattle.swap_tests.proofs.tests.rows.hand_many.Given as goal

abbrev pub invariant-loop-number : goal.invariant-loop-number
invariant-loop-number g l = HoldsNoCell l.sys l.pass
