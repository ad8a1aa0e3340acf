use Rattle.std.proofs.Common.{◌≡◌, length}
use Rattle.k42_stamp.proofs.Listed.{IsListUpTo}
use Rattle.journal_tests.proofs.tests.log_of.Given as goal

abbrev pub invariant-loop-stamp : goal.invariant-loop-stamp
invariant-loop-stamp g l = record {
  list : IsListUpTo l.caller l.last l.log.entries;
  caller : l.log.owner.caller ≡ l.caller;
  first : l.log.first ≡ 0;
  few : length l.log.entries ≡ l.stamp-index;
  end : l.stamp-index-end ≡ length l.entries;
}
