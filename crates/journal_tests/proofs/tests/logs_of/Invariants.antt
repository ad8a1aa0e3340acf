use Rattle.std.proofs.Common.{◌≡◌, ◌≤◌, ◌*◌, length, vec_capacity}
use Rattle.k42_stamp.specs.Lists.{AreLists}
use Rattle.k42_stamp.specs.Merging.{entries_in}
use Rattle.k42_journal.specs.Logs.{lists_of}
use Rattle.journal_tests.proofs.tests.logs_of.Given as goal

abbrev pub invariant-loop-caller : goal.invariant-loop-caller
invariant-loop-caller g l = record {
  lists : AreLists (lists_of l.logs.items);
  many : length l.logs.items ≡ l.caller;
  few : entries_in (lists_of l.logs.items) ≤ l.caller * 100;
  room : vec_capacity l.logs ≡ 4;
}
