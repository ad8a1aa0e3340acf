use Rattle.either_tests.proofs.tests.walk.Given as goal

abbrev pub invariant-loop-proc : goal.invariant-loop-proc
invariant-loop-proc g l = g.L.Layout.whole l.layout 4 l.row.items
