-- What was read, and what that says of the source.
use Rattle.std.proofs.Common.{◌≡◌, ℕ, ◌<◌, ◌≤◌, List, [], length, take, drop, refl, ap, ◌∙◌, arith}
use Rattle.std.specs.Prelude.{Option, Some, None, IfSome}
use Rattle.std.proofs.lemmas.List.{length-take}
use Rattle.std.proofs.Math.ListN.{drop_of_length-le}
use Rattle.k42_io.specs.Source.{TakesFirst, LosesAtMost}

-- what is short of its limit was read to its end
pub ended : (limit : ℕ) (bytes all : List ℕ) (left_after : Option (List ℕ)) → all ≡ take limit bytes → left_after ≡ Some (drop limit bytes) → length all < limit → left_after ≡ Some []
ended limit bytes all left_after taken after short =
    let few : length bytes ≤ limit = omega (arith, short, ap length taken, length-take limit bytes) in
    after ∙ ap Some (drop_of_length-le bytes {i = limit} few)

-- what was taken was lost, and no more
pub taken_lost : (limit : ℕ) (left left_after : Option (List ℕ)) (bytes : List ℕ) → TakesFirst limit left left_after bytes → LosesAtMost limit left left_after
taken_lost limit None left_after bytes takes = tt
taken_lost limit (Some all) left_after bytes takes = (limit, omega arith, takes.1)

pub told_bytes : Option (List ℕ) → List ℕ
told_bytes None = []
told_bytes (Some bytes) = bytes

pub told_told : (left : Option (List ℕ)) → IfSome left (λ before. before ≡ told_bytes left)
unfolding told_bytes
told_told None = tt
told_told (Some bytes) = refl
