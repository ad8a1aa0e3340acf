-- What stands at a place of a list that has more behind it.
use Rattle.std.proofs.Common.{◌≡◌, ℕ, zero, suc, ◌<◌, List, [], ◌∷◌, ◌++◌, length, ◌⊎◌, inl, inr, ⊎_elim, refl, ap, arith}
use Rattle.std.specs.Prelude.{Some, slice_get}
use Rattle.std.proofs.lemmas.Option.{same_Some}

module _ {A : Type 0} where
  pub slice_get-append_left : (xs ys : List A) (i : ℕ) (x : A) → slice_get xs i ≡ Some x → slice_get (xs ++ ys) i ≡ Some x
  slice_get-append_left [] ys i x there = absurd (cc)
  slice_get-append_left (z ∷ xs) ys zero x there = there
  slice_get-append_left (z ∷ xs) ys (suc i) x there = slice_get-append_left xs ys i x there

  -- the first element behind the left part
  pub slice_get-append_seam : (xs : List A) (x : A) (ys : List A) → slice_get (xs ++ x ∷ ys) (length xs) ≡ Some x
  slice_get-append_seam [] x ys = refl
  slice_get-append_seam (z ∷ xs) x ys = slice_get-append_seam xs x ys

  -- what stands in a list with one more element stood there before, or is that one
  pub at_push : (xs : List A) (x : A) (i : ℕ) (y : A) → slice_get (xs ++ x ∷ []) i ≡ Some y
      → ((i < length xs) × (slice_get xs i ≡ Some y)) ⊎ ((i ≡ length xs) × (x ≡ y))
  at_push [] x zero y e = inr (refl, same_Some x y e)
  at_push [] x (suc i) y e = absurd (cc)
  at_push (z ∷ xs) x zero y e = inl (omega arith, e)
  at_push (z ∷ xs) x (suc i) y e =
      ⊎_elim (λ t. let n = t.0 in inl (omega arith, t.1)) (λ t. inr (ap suc t.0, t.1)) (at_push xs x i y e)
