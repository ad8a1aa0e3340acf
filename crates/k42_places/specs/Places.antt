-- What holds of a list place by place.
use Rattle.std.specs.Prelude.{ℕ, ◌≡◌, List, Some, slice_get}

-- each element of the list, with its place, has the fact
abbrev pub EachPlace : {A : Type 0} → (ℕ → A → Type 0) → List A → Type 0
EachPlace {A} P xs = (i : ℕ) (x : A) → slice_get xs i ≡ Some x → P i x

-- and so have each two that stand at one place of two lists
abbrev pub EachPair : {A B : Type 0} → (ℕ → A → B → Type 0) → List A → List B → Type 0
EachPair {A} {B} P xs ys = (i : ℕ) (x : A) (y : B) → slice_get xs i ≡ Some x → slice_get ys i ≡ Some y → P i x y
