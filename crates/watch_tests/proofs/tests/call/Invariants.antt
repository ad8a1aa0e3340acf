use Rattle.std.proofs.Common.{◌≤◌}
use Rattle.k42_shapes.specs.Shapes.{shared_and_spread}
use Rattle.k42_watch.specs.WatchedRows.{IsWatchedRow, within}
use Rattle.co_any.specs.Layouts.{whole_of}
use Rattle.watch_tests.proofs.tests.call.Given as goal

abbrev pub invariant-loop-op : goal.invariant-loop-op
invariant-loop-op g l = IsWatchedRow (within shared_and_spread l.layout.inner.tag) (whole_of l.layout.inner.kind l.layout.inner.tag 8) l.row.items × (l.proc ≤ 7)
