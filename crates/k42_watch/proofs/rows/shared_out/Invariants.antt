use Rattle.std.proofs.Common.{◌≡◌, ◌++◌}
use Rattle.k42_watch.specs.WatchedRows.{shared_out}
use Rattle.k42_watch.proofs.rows.shared_out.Given as goal

abbrev pub invariant-loop-inner : goal.invariant-loop-inner
invariant-loop-inner g l = l.parts.items ++ shared_out l.seen l.inner-iterator.rest.items ≡ shared_out l.fn.seen l.fn.inners.items
