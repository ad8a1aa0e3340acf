-- Rows of eight processors: how many cells they have, who calls which, and who does not share one.
use Rattle.std.proofs.Common.{◌≡◌, true, refl, arith}
use Rattle.k42_shapes.specs.declared.shape.Shape.TheVariants.{One, Each, Groups}
use Rattle.k42_shapes.specs.Shapes.{cell_called, cells_of, AreTogether, IsKnownTag, IsLiveTag, is_dead_tag, shape_at, shared_and_spread}
use Rattle.k42_shapes.proofs.ShapeLaws.{together_called}

one_for_all : cells_of One 8 ≡ 1
one_for_all = refl

one_for_each : cells_of Each 8 ≡ 8
one_for_each = refl

four_pairs : cells_of (Groups 2) 8 ≡ 4
four_pairs = refl

-- the last group has the two processors that are left
two_threes_and_a_pair : cells_of (Groups 3) 8 ≡ 3
two_threes_and_a_pair = refl

wider_than_all : cells_of (Groups 9) 8 ≡ 1
wider_than_all = refl

none_is_one : cells_of (Groups 0) 8 ≡ 8
none_is_one = refl

last_of_threes : cell_called (Groups 3) 7 ≡ 2
last_of_threes = refl

paired : AreTogether (Groups 2) 2 3
paired = record {
  group = 1;
  has_one = record { from = omega arith; below = omega arith };
  has_other = record { from = omega arith; below = omega arith };
}

-- neighbours of two groups do not share a cell
not_paired : AreTogether (Groups 2) 3 4 → ⊥
not_paired together = let same : 1 ≡ 2 = together_called (Groups 2) 3 4 together in absurd (omega (arith, same))

not_shared : AreTogether Each 3 4 → ⊥
not_shared together = absurd (omega (arith, together))

-- shared, spread, and dead with one cell; there is no fourth
spread_is_each : shape_at shared_and_spread 1 ≡ Each
spread_is_each = refl

dead_is_two : is_dead_tag shared_and_spread 2 ≡ true
dead_is_two = refl

dead_is_one : shape_at shared_and_spread 2 ≡ One
dead_is_one = refl

dead_not_live : IsLiveTag shared_and_spread 2 → ⊥
dead_not_live live = absurd (omega (arith, live))

no_fourth : IsKnownTag shared_and_spread 3 → ⊥
no_fourth known = absurd (omega (arith, known))
