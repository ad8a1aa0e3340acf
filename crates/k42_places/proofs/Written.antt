-- What stands at a place after one place was written.
use Rattle.std.proofs.Common.{◌≡◌, ◌≢◌, ℕ, zero, suc, ◌<◌, ◌⊎◌, List, [], ◌∷◌, length, get_or, set, Some, refl, ap, inl, inr, ⊎_elim, arith}
use Rattle.std.specs.List.{slice_get}
use Rattle.std.proofs.lemmas.Option.{same_Some}

module _ {A : Type 0} where
  pub slice_get-set_here : (l : List A) (i : ℕ) (a : A) → i < length l → slice_get (set l i a) i ≡ Some a
  slice_get-set_here [] i a h = absurd (omega arith)
  slice_get-set_here (x ∷ xs) zero a h = refl
  slice_get-set_here (x ∷ xs) (suc i) a h = slice_get-set_here xs i a (omega arith)

  pub slice_get-set_else : (l : List A) (i j : ℕ) (a : A) → j ≢ i → slice_get (set l i a) j ≡ slice_get l j
  slice_get-set_else [] i j a n = refl
  slice_get-set_else (x ∷ xs) zero zero a n = absurd (n refl)
  slice_get-set_else (x ∷ xs) zero (suc j) a n = refl
  slice_get-set_else (x ∷ xs) (suc i) zero a n = refl
  slice_get-set_else (x ∷ xs) (suc i) (suc j) a n = slice_get-set_else xs i j a (λ e. n (ap suc e))

  -- an element of an updated list is the new one at its place, or an old one at another
  pub at_set : (l : List A) (i j : ℕ) (a b : A) → slice_get (set l i a) j ≡ Some b
      → ((j ≡ i) × (a ≡ b)) ⊎ ((j ≢ i) × (slice_get l j ≡ Some b))
  at_set [] i j a b e = absurd (cc)
  at_set (x ∷ xs) zero zero a b e = inl (refl, same_Some a b e)
  at_set (x ∷ xs) zero (suc j) a b e = inr ((λ h. omega arith), e)
  at_set (x ∷ xs) (suc i) zero a b e = inr ((λ h. omega arith), e)
  at_set (x ∷ xs) (suc i) (suc j) a b e =
      ⊎_elim (λ t. inl (ap suc t.0, t.1)) (λ t. let n = t.0 in inr ((λ h. n (omega arith)), t.1)) (at_set xs i j a b e)

  -- what is read at a place before and after one was written is related where the written place is
  pub get_or-set_related : (R : A → A → Type 0) → ((x : A) → R x x) → (l : List A) (i j : ℕ) (a d : A)
      → R (get_or l i d) a → R (get_or l j d) (get_or (set l i a) j d)
  get_or-set_related R same [] i j a d here = same (get_or [] j d)
  get_or-set_related R same (x ∷ xs) zero zero a d here = here
  get_or-set_related R same (x ∷ xs) zero (suc j) a d here = same (get_or xs j d)
  get_or-set_related R same (x ∷ xs) (suc i) zero a d here = same x
  get_or-set_related R same (x ∷ xs) (suc i) (suc j) a d here = get_or-set_related R same xs i j a d here
