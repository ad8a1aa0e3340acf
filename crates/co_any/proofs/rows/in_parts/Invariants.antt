use Rattle.std.proofs.Common.{◌≡◌, ◌++◌, map}
use Rattle.co_any.proofs.rows.in_parts.Given as goal

abbrev pub invariant-loop-part : goal.invariant-loop-part
invariant-loop-part g l = l.parts.items ++ map (g.P.Own.part_of) l.part-iterator.rest.items ≡ map (g.P.Own.part_of) l.fn.own.items
