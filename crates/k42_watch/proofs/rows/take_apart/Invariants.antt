use Rattle.std.proofs.Common.{◌≡◌, ◌+◌, ◌≤◌, ◌++◌, length}
use Rattle.std.specs.Prelude.{vec_len, vec_capacity}
use Rattle.k42_watch.specs.WatchedRows.{inners, seens}
use Rattle.k42_watch.proofs.rows.take_apart.Given as goal

abbrev pub invariant-loop-part : goal.invariant-loop-part
invariant-loop-part g l =
    (l.inners.items ++ inners l.part-iterator.rest.items ≡ l.fn.inners.items ++ inners l.fn.parts.items)
    × (l.seens.items ++ seens l.part-iterator.rest.items ≡ l.fn.seens.items ++ seens l.fn.parts.items)
    × (vec_len l.inners + length l.part-iterator.rest.items ≤ vec_capacity l.inners)
    × (vec_len l.seens + length l.part-iterator.rest.items ≤ vec_capacity l.seens)
