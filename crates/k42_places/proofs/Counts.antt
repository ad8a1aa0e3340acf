-- How many elements of a list pass a test.
use Rattle.std.proofs.Common.{◌≡◌, ℕ, suc, ◌+◌, ◌<◌, Bool, true, false, cond, List, [], ◌∷◌, set, Some, refl, arith}
use Rattle.std.specs.List.{slice_get, count_by}
use Rattle.std.proofs.lemmas.Option.{slice_get_within, get_or_from_slice_get}
use Rattle.std.proofs.lemmas.List.Sums.{sum_by-set, sum_by-cons, get_or-le-sum_by}
use Rattle.k42_places.specs.Places.{EachPlace}

module _ {A : Type 0} where
  -- the count before and after one element changes
  pub count_by-set : (p : A → Bool) (l : List A) (i : ℕ) (x y : A) → slice_get l i ≡ Some x
      → count_by p (set l i y) + cond (p x) 1 0 ≡ count_by p l + cond (p y) 1 0
  count_by-set p l i x y e =
      rw (← (get_or_from_slice_get l i x y e)) (sum_by-set (λ z. cond (p z) 1 0) l i y y (slice_get_within l i x e))

  pub count_by-set_same : (p : A → Bool) (l : List A) (i : ℕ) (x y : A) → slice_get l i ≡ Some x → p y ≡ p x
      → count_by p (set l i y) ≡ count_by p l
  count_by-set_same p l i x y e same = grind (arith, count_by-set p l i x y e)

  pub count_by-set_more : (p : A → Bool) (l : List A) (i : ℕ) (x y : A) → slice_get l i ≡ Some x → p x ≡ false
      → p y ≡ true
      → count_by p (set l i y) ≡ count_by p l + 1
  count_by-set_more p l i x y e old new = grind (arith, count_by-set p l i x y e)

  pub count_by-set_less : (p : A → Bool) (l : List A) (i : ℕ) (x y : A) → slice_get l i ≡ Some x → p x ≡ true
      → p y ≡ false
      → count_by p (set l i y) + 1 ≡ count_by p l
  count_by-set_less p l i x y e old new = grind (arith, count_by-set p l i x y e)

  -- one element that passes is counted
  pub count_by_some : (p : A → Bool) (l : List A) (i : ℕ) (x : A) → slice_get l i ≡ Some x → p x ≡ true
      → 0 < count_by p l
  count_by_some p l i x e passes =
      grind (arith, get_or_from_slice_get l i x x e, get_or-le-sum_by (λ z. cond (p z) 1 0) l i x (slice_get_within l i x e))

  pub count_by_none : (p : A → Bool) (l : List A) → EachPlace (λ i x. p x ≡ false) l → count_by p l ≡ 0
  count_by_none p [] none = refl
  count_by_none p (x ∷ xs) none =
      rw (sum_by-cons (λ z. cond (p z) 1 0) x xs) (rw (none 0 x refl) (grind (arith, count_by_none p xs (λ i z e. none (suc i) z e))))

  pub count_by_zero : (p : A → Bool) (l : List A) → count_by p l ≡ 0 → EachPlace (λ i x. p x ≡ false) l
  count_by_zero p l zero_is i x e = elim_passes p l i x zero_is e (p x) refl where
    elim_passes : (p : A → Bool) (l : List A) (i : ℕ) (x : A) → count_by p l ≡ 0 → slice_get l i ≡ Some x
        → (b : Bool) → p x ≡ b → b ≡ false
    elim_passes p l i x zero_is e true passes = absurd (omega (arith, count_by_some p l i x e passes))
    elim_passes p l i x zero_is e false fails = refl
