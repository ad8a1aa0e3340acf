use Rattle.std.proofs.Common.{◌≡◌, ◌+◌, ◌≤◌, ◌++◌, length, map}
use Rattle.std.specs.Prelude.{vec_len, vec_capacity}
use Rattle.k42_choice.proofs.within.put_back.Given as goal

abbrev pub invariant-loop-part : goal.invariant-loop-part
invariant-loop-part g l =
    (l.parts.items ++ map g.W.Within.side.part_of l.part-iterator.rest.items ≡ l.fn.parts.items ++ map g.W.Within.side.part_of l.fn.own.items)
    × (vec_len l.parts + length l.part-iterator.rest.items ≤ vec_capacity l.parts)
