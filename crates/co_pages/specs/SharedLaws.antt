-- The pages that are kept as one map keep the laws of layouts.
use Rattle.std.specs.Prelude.{ℕ, List, [], ◌∷◌, refl}
use Rattle.k42_shapes.specs.declared.shape.Shape.TheVariants as shapes
use Rattle.k42_kinds.specs.declared.operation.Op.{Op}
use Rattle.k42_kinds.specs.declared.entry.Reach.TheVariants.{One, All}
use Rattle.k42_kinds.specs.Objects.{Pages, pages_object}
use Rattle.k42_kinds.specs.LayoutLaws.{StepsRow, StandsFor}
use Rattle.co_pages.specs.OneMap.{IsAny, IsOneMap, shared}

pub shared_steps : (procs : ℕ) (row : List Pages) (op : Op) → IsOneMap procs row → StepsRow pages_object shared (IsOneMap procs) row op (One 0)
shared_steps procs [] op whole = absurd whole
shared_steps procs (pages ∷ []) op whole = record { whole = tt; moved = refl; replied = refl }
shared_steps procs (pages ∷ other ∷ others) op whole = absurd whole

pub shared_steps_all : (procs : ℕ) (row : List Pages) (op : Op) → IsOneMap procs row → StepsRow pages_object shared (IsOneMap procs) row op All
shared_steps_all procs [] op whole = absurd whole
shared_steps_all procs (pages ∷ []) op whole = record { whole = tt; moved = refl; replied = refl }
shared_steps_all procs (pages ∷ other ∷ others) op whole = absurd whole

pub shared_stands : (procs : ℕ) (row : List Pages) → IsOneMap procs row → StandsFor shared IsAny shapes.One procs row
shared_stands procs [] whole = absurd whole
shared_stands procs (pages ∷ []) whole = record { sized = refl; served = tt }
shared_stands procs (pages ∷ other ∷ others) whole = absurd whole
