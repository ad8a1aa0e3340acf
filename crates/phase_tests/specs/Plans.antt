-- Objects of the same layouts.
use Rattle.std.specs.Prelude.{ℕ, List}
use Rattle.k42_shapes.specs.declared.shape.Shape.{Shape}
use Rattle.phase_core.specs.Plain.{ObjectPlan}

abbrev pub plan_of : List Shape → ℕ → ObjectPlan
plan_of shapes layout = record { shapes = shapes; layout = layout }
