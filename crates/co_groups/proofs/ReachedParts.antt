-- The part that an operation needs in groups is the one that it needs in the layout's own row.
use Rattle.std.proofs.Common.{ℕ, List}
use Rattle.k42_shapes.specs.declared.shape.Shape.{Shape}
use Rattle.k42_shapes.specs.Shapes.{cells_of, cell_called}
use Rattle.k42_shapes.proofs.ShapeLaws.{cell_within}
use Rattle.k42_kinds.specs.Rows.{Ways}
use Rattle.k42_kinds.specs.LayoutLaws.{IsReached}
use Rattle.co_groups.specs.Grouped.{grouped, IsGrouped}

pub reached_there : {S P O R : Type 0} (ways : Ways S P O R) (Whole : ℕ → List P → Type 0) (shape : Shape) (part : P) (op : O)
    → IsReached (grouped shape ways) (IsGrouped shape Whole) part op → IsReached ways Whole part op
reached_there ways Whole shape part op reached = record {
  procs = cells_of shape reached.procs;
  proc = cell_called shape reached.proc;
  parts = reached.parts;
  cell = reached.cell;
  known = cell_within shape reached.proc reached.procs reached.known;
  whole = reached.whole;
  needed = reached.needed;
  there = reached.there;
}
