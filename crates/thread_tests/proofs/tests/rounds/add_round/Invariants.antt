use Rattle.table_crews.specs.Ready.{HoldsNoCell}
use Rattle.thread_tests.proofs.tests.rounds.add_round.Given as goal

abbrev pub invariant-loop : goal.invariant-loop
invariant-loop g l = HoldsNoCell l.sys l.pass
