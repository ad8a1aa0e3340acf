use Rattle.std.proofs.Common.{◌≡◌, ◌≤◌}
use Rattle.k42_kinds.specs.Rows.{made_from}
use Rattle.k42_shapes.specs.Shapes.{cells_of}
use Rattle.group_tests.proofs.rows.begun.Given as goal

abbrev pub invariant-loop-cell : goal.invariant-loop-cell
invariant-loop-cell g l = record {
  made : l.row.items ≡ made_from ((g.W.Way.ways l.way).empty l.procs) 0 l.cell;
  within : l.cell ≤ l.cells;
  cells : l.cells ≡ cells_of (g.W.Way.shape_of l.way) l.procs;
}
