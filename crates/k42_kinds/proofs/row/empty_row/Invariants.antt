use Rattle.std.proofs.Common.{◌≡◌, ◌≤◌}
use Rattle.k42_kinds.specs.Rows.{made_from}
use Rattle.k42_shapes.specs.Shapes.{cells_of, shape_at}
use Rattle.k42_kinds.proofs.row.empty_row.Given as goal

abbrev pub invariant-loop-cell : goal.invariant-loop-cell
invariant-loop-cell g l = record {
  made : l.parts.items ≡ made_from ((g.L.Layout.ways l.layout).empty l.procs) 0 l.cell;
  within : l.cell ≤ l.cells;
  cells : l.cells ≡ cells_of (shape_at (g.L.Layout.shapes l.layout) (g.L.Layout.tag_of l.layout)) l.procs;
}
