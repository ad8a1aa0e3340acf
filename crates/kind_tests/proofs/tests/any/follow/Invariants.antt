use Rattle.std.proofs.Common.{◌<◌}
use Rattle.co_any.specs.Layouts.{whole_of}
use Rattle.kind_tests.proofs.tests.any.follow.Given as goal

abbrev pub invariant-loop-op : goal.invariant-loop-op
invariant-loop-op g l = whole_of l.layout.kind l.layout.tag l.procs l.row.items × (l.proc < l.procs)
