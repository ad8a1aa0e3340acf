use Rattle.limiter_tests.proofs.tests.walk.Given as goal

abbrev pub invariant-loop-proc : goal.invariant-loop-proc
invariant-loop-proc g l = g.W.Way.whole l.way 4 l.row.items
