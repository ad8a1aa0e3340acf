use Rattle.std.proofs.Common.{◌≡◌, ◌+◌, ◌≤◌, vec_len, vec_capacity}
use Rattle.k42_stamp.specs.Merging.{entries_in}
use Rattle.k42_stamp.proofs.NextEntries.{IsMerging}
use Rattle.k42_stamp.proofs.merging.move_all.Given as goal

abbrev pub invariant-loop : goal.invariant-loop
invariant-loop g l = record {
  merging : IsMerging l.fn.rests.items l.rests.items l.entries.items;
  all : vec_len l.entries + entries_in l.rests.items ≡ entries_in l.fn.rests.items;
  room : vec_len l.entries + entries_in l.rests.items ≤ vec_capacity l.entries;
}

abbrev pub decreases-loop : goal.decreases-loop
decreases-loop g l = entries_in l.rests.items
