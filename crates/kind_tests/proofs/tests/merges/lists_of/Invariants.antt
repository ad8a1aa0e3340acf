use Rattle.std.proofs.Common.{◌≡◌, map, vec_items, length}
use Rattle.k42_stamp.specs.Lists.{AreLists}
use Rattle.kind_tests.proofs.tests.merges.lists_of.Given as goal

abbrev pub invariant-loop-caller : goal.invariant-loop-caller
invariant-loop-caller l = AreLists (map vec_items l.lists.items) × (length l.lists.items ≡ l.caller)
