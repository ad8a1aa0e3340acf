use Rattle.std.proofs.Common.{◌≡◌, ◌+◌, ◌≤◌, ◌++◌, length}
use Rattle.std.specs.Prelude.{vec_len, vec_capacity}
use Rattle.k42_choice.specs.Lifting.{own_parts}
use Rattle.k42_choice.proofs.within.take_out.Given as goal

abbrev pub invariant-loop-part : goal.invariant-loop-part
invariant-loop-part g l =
    (l.own.items ++ own_parts g.W.Within.side l.part-iterator.rest.items ≡ l.fn.own.items ++ own_parts g.W.Within.side l.fn.parts.items)
    × (vec_len l.own + length l.part-iterator.rest.items ≤ vec_capacity l.own)
