-- A list is shared out among four by a number of each element.
use Rattle.std.proofs.Common.{◌≡◌, ℕ, zero, suc, ◌+◌, ◌<◌, Bool, true, false, cond, List, [], ◌∷◌, map, filter, sum_by, eqb, refl, arith}
use Rattle.std.specs.List.{AllByRecursion}
use Rattle.std.proofs.lemmas.Bool.{eq-eqb}
use Rattle.std.proofs.lemmas.List.Folds.{fold-map}
use Rattle.std.proofs.lemmas.List.Sums.{sum_by-cons}

-- what holds of everything holds of each element
pub everywhere : {X : Type 0} (P : X → Type 0) → ((x : X) → P x) → (xs : List X) → AllByRecursion P xs
everywhere P each [] = tt
everywhere P each (x ∷ xs) = (each x, everywhere P each xs)

pub sum_by-map : {X Y : Type 0} (f : Y → ℕ) (g : X → Y) (xs : List X) → sum_by f (map g xs) ≡ sum_by (λ x. f (g x)) xs
sum_by-map f g xs = fold-map (λ sum y. sum + f y) g 0 xs

in_one : (value number : ℕ) → number < 4 → cond (eqb number 0) value 0 + cond (eqb number 1) value 0 + cond (eqb number 2) value 0 + cond (eqb number 3) value 0 ≡ value
in_one value zero less = omega arith
in_one value (suc zero) less = omega arith
in_one value (suc (suc zero)) less = omega arith
in_one value (suc (suc (suc zero))) less = omega arith
in_one value (suc (suc (suc (suc number)))) less = absurd (omega (arith, less))

-- the elements with one number
abbrev pub share_of : {X : Type 0} → (X → ℕ) → ℕ → List X → List X
share_of number_of number xs = filter (λ x. eqb (number_of x) number) xs

module _ {X : Type 0} (number_of : X → ℕ) where
  share_more : (f : X → ℕ) (number : ℕ) (x : X) (xs : List X) (b : Bool) → eqb (number_of x) number ≡ b → sum_by f (share_of number_of number (x ∷ xs)) ≡ cond b (f x) 0 + sum_by f (share_of number_of number xs)
  share_more f number x xs true is = rw is (sum_by-cons f x (share_of number_of number xs))
  share_more f number x xs false is = rw is (omega arith)

  -- a sum over all is that of the sums over the four shares
  pub four_shares : (f : X → ℕ) (xs : List X) → AllByRecursion (λ x. number_of x < 4) xs → sum_by f xs ≡ sum_by f (share_of number_of 0 xs) + sum_by f (share_of number_of 1 xs) + sum_by f (share_of number_of 2 xs) + sum_by f (share_of number_of 3 xs)
  four_shares f [] within = refl
  four_shares f (x ∷ xs) within =
      omega (arith, sum_by-cons f x xs, four_shares f xs within.1, in_one (f x) (number_of x) within.0, share_more f 0 x xs (eqb (number_of x) 0) refl, share_more f 1 x xs (eqb (number_of x) 1) refl, share_more f 2 x xs (eqb (number_of x) 2) refl, share_more f 3 x xs (eqb (number_of x) 3) refl)

  head_of : (P : X → Type 0) (x : X) (xs : List X) (b : Bool) → b ≡ true → AllByRecursion P (cond b (x ∷ xs) xs) → P x
  head_of P x xs true is all = all.0
  head_of P x xs false is all = cc

  tail_of : (P : X → Type 0) (x : X) (xs : List X) (b : Bool) → AllByRecursion P (cond b (x ∷ xs) xs) → AllByRecursion P xs
  tail_of P x xs true all = all.1
  tail_of P x xs false all = all

  -- what holds in each share holds in all
  pub from_shares : (P : ℕ → X → Type 0) (xs : List X) → AllByRecursion (λ x. number_of x < 4) xs → ((number : ℕ) → number < 4 → AllByRecursion (P number) (share_of number_of number xs)) → AllByRecursion (λ x. P (number_of x) x) xs
  from_shares P [] within each = tt
  from_shares P (x ∷ xs) within each = (
    head_of (P (number_of x)) x (share_of number_of (number_of x) xs) (eqb (number_of x) (number_of x)) (eq-eqb (number_of x) (number_of x) refl) (each (number_of x) within.0),
    from_shares P xs within.1 (λ number less. tail_of (P number) x (share_of number_of number xs) (eqb (number_of x) number) (each number less)),
  )
