use Rattle.group_tests.proofs.rows.walk.Given as goal

abbrev pub invariant-loop-proc : goal.invariant-loop-proc
invariant-loop-proc g l = g.W.Way.whole l.way 6 l.row.items
