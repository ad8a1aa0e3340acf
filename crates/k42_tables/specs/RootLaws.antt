-- The cell that a root names is one of its cells.
use Rattle.std.specs.Prelude.{ℕ, ◌<◌}
use Rattle.std.proofs.Common.{arith}
use Rattle.k42_shapes.specs.declared.shape.Shape.{Shape}
use Rattle.k42_shapes.specs.declared.shape.Shape.TheVariants as shapes
use Rattle.k42_shapes.specs.Shapes.{cells_of, cell_called}
use Rattle.k42_shapes.proofs.ShapeLaws.{cell_within}

pub shared_serves : (proc procs : ℕ) → cell_called shapes.One proc < cells_of shapes.One procs
shared_serves proc procs = omega arith

pub shape_serves : (shape : Shape) (proc procs : ℕ) → proc < procs → cell_called shape proc < cells_of shape procs
shape_serves shape proc procs there = cell_within shape proc procs there
