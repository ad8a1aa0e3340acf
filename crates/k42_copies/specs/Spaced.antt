-- The four shapes in which copies are kept, and their numbers.
use Rattle.std.specs.Prelude.{◌≡◌, ℕ, ◌<◌, Bool, List, [], ◌∷◌, refl}
use Rattle.std.proofs.Common.{arith, subst}
use Rattle.k42_shapes.specs.declared.shape.Shape.{Shape}
use Rattle.k42_shapes.specs.declared.shape.Shape.TheVariants.{One, Each, Groups}
use Rattle.k42_shapes.specs.Shapes.{IsLiveTag, shape_at}
use Rattle.k42_kinds.specs.LayoutLaws.{Agree}
use Rattle.k42_kinds.specs.OneThread.{OneThread}
use Rattle.k42_copies.specs.Copies.{AreCopies, IsReachable, copies}
use Rattle.k42_copies.specs.CopyLaws.{kept_alike}
use Rattle.k42_copies.specs.declared.spaced.Spaced.{Spaced}
use Rattle.k42_copies.specs.declared.spaced.Spaced.TheVariants.{Together, InPairs, InFours, Apart}

abbrev pub number_of : Spaced → ℕ
number_of Together = 0
number_of InPairs = 1
number_of InFours = 2
number_of Apart = 3

abbrev pub shape_of : Spaced → Shape
shape_of Together = One
shape_of InPairs = Groups 2
shape_of InFours = Groups 4
shape_of Apart = Each

-- by their numbers
abbrev pub four_shapes : List Shape
four_shapes = One ∷ Groups 2 ∷ Groups 4 ∷ Each ∷ []

abbrev pub has_number : ℕ → Type 0
has_number number = IsLiveTag four_shapes number

pub numbered_shape : (spaced : Spaced) → shape_at four_shapes (number_of spaced) ≡ shape_of spaced
numbered_shape Together = refl
numbered_shape InPairs = refl
numbered_shape InFours = refl
numbered_shape Apart = refl

pub number_there : (spaced : Spaced) → IsLiveTag four_shapes (number_of spaced)
number_there Together = omega arith
number_there InPairs = omega arith
number_there InFours = omega arith
number_there Apart = omega arith

pub one_number : (spaced other : Spaced) → number_of spaced ≡ number_of other → spaced ≡ other
one_number Together Together same = refl
one_number InPairs InPairs same = refl
one_number InFours InFours same = refl
one_number Apart Apart same = refl
one_number Together InPairs same = absurd (omega (arith, same))
one_number Together InFours same = absurd (omega (arith, same))
one_number Together Apart same = absurd (omega (arith, same))
one_number InPairs Together same = absurd (omega (arith, same))
one_number InPairs InFours same = absurd (omega (arith, same))
one_number InPairs Apart same = absurd (omega (arith, same))
one_number InFours Together same = absurd (omega (arith, same))
one_number InFours InPairs same = absurd (omega (arith, same))
one_number InFours Apart same = absurd (omega (arith, same))
one_number Apart Together same = absurd (omega (arith, same))
one_number Apart InPairs same = absurd (omega (arith, same))
one_number Apart InFours same = absurd (omega (arith, same))

-- copies of one object with one number are kept in one way
pub spaced_agree : {S O R : Type 0} (object other : OneThread S O R) (reads : O → Bool) (spaced another : Spaced) → object ≡ other → number_of spaced ≡ number_of another
    → Agree (copies object reads (shape_of spaced)) (copies other reads (shape_of another)) (AreCopies object (shape_of spaced)) (AreCopies other (shape_of another))
    (IsReachable object) (IsReachable other)
spaced_agree object other reads spaced another same numbers =
    subst (λ (it : Spaced). Agree (copies object reads (shape_of spaced)) (copies other reads (shape_of it)) (AreCopies object (shape_of spaced)) (AreCopies other (shape_of it))
    (IsReachable object) (IsReachable other)) (one_number spaced another numbers) (kept_alike object other reads (shape_of spaced) same).agree
