use Rattle.table_crews.specs.Ready.{HoldsNoCell}
use Rattle.thread_tests.proofs.tests.rounds.add_all.Given as goal

abbrev pub invariant-loop-round : goal.invariant-loop-round
invariant-loop-round g l = HoldsNoCell l.sys l.pass
