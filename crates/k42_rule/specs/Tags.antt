-- The layouts that an object may be given.
use Rattle.std.specs.Prelude.{ℕ, Bool, List, IsTrue}
use Rattle.k42_shapes.specs.Shapes.{IsKnownTag}
use Rattle.k42_shapes.specs.declared.shape.Shape.{Shape}
use Rattle.k42_places.specs.Places.{EachPlace}

-- its type has all layouts of its object, the live ones and the dead one
abbrev pub HasTags : {L : Type 0} → (L → List Shape) → (L → ℕ → Bool) → L → Type 0
HasTags shapes_of has_tag layout = (tag : ℕ) → IsKnownTag (shapes_of layout) tag → IsTrue (has_tag layout tag)

abbrev pub HaveTags : {L : Type 0} → (L → List Shape) → (L → ℕ → Bool) → List L → Type 0
HaveTags shapes_of has_tag layouts = EachPlace (λ o layout. HasTags shapes_of has_tag layout) layouts
