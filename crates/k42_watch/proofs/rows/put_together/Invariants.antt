use Rattle.std.proofs.Common.{◌≡◌, ◌+◌, ◌≤◌, ◌++◌, length}
use Rattle.std.specs.Prelude.{vec_len, vec_capacity}
use Rattle.k42_watch.specs.WatchedRows.{rejoined}
use Rattle.k42_watch.proofs.rows.put_together.Given as goal

abbrev pub invariant-loop-inner : goal.invariant-loop-inner
invariant-loop-inner g l =
    (l.parts.items ++ rejoined l.inner-iterator.rest.items l.rest ≡ l.fn.parts.items ++ rejoined l.fn.inners.items l.fn.seens)
    × (vec_len l.parts + length l.inner-iterator.rest.items ≤ vec_capacity l.parts)
