use Rattle.std.proofs.Common.{◌≡◌, ◌+◌, ◌≤◌, ◌++◌, map, vec_items, vec_len, vec_capacity, length}
use Rattle.k42_stamp.proofs.merging.rests_of.Given as goal

abbrev pub invariant-loop-list : goal.invariant-loop-list
invariant-loop-list g l = record {
  items : l.rests.items ++ map vec_items l.list-iterator.rest.items ≡ map vec_items l.fn.lists.items;
  room : vec_len l.rests + length l.list-iterator.rest.items ≤ vec_capacity l.rests;
}
