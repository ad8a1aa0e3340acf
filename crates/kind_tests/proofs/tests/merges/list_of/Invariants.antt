use Rattle.k42_stamp.proofs.Listed.{IsListUpTo}
use Rattle.kind_tests.proofs.tests.merges.list_of.Given as goal

abbrev pub invariant-loop-stamp : goal.invariant-loop-stamp
invariant-loop-stamp l = IsListUpTo l.caller l.last l.list.items
