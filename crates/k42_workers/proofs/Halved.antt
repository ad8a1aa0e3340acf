-- What holds of each pair of two lists holds of each half, and back.
use Rattle.std.proofs.Common.{◌≡◌, ℕ, zero, suc, ◌+◌, ◌-◌, ◌<◌, ◌≤◌, Bool, true, false, ltb, eqb, List, [], ◌∷◌, ◌++◌, length, take, drop, refl, sym, ap, ◌∙◌, subst, arith}
use Rattle.std.specs.Prelude.{Some, Result, Ok, Err, OnOk, IfOk, slice_get, slice_set}
use Rattle.std.proofs.lemmas.Option.{same_Some, slice_get_within}
use Rattle.std.proofs.lemmas.Bool.Decides.{nat_tests}
use Rattle.k42_places.specs.Places.{EachPair}

module _ {A : Type 0} where
  from_take : (xs : List A) (n i : ℕ) (x : A) → slice_get (take n xs) i ≡ Some x → slice_get xs i ≡ Some x
  from_take xs zero i x e = cc
  from_take [] (suc n) i x e = cc
  from_take (a ∷ xs) (suc n) zero x e = e
  from_take (a ∷ xs) (suc n) (suc i) x e = from_take xs n i x e

  to_take : (xs : List A) (n i : ℕ) (x : A) → i < n → slice_get xs i ≡ Some x → slice_get (take n xs) i ≡ Some x
  to_take xs zero i x less e = absurd (omega (arith, less))
  to_take [] (suc n) i x less e = cc
  to_take (a ∷ xs) (suc n) zero x less e = e
  to_take (a ∷ xs) (suc n) (suc i) x less e = to_take xs n i x (omega (arith, less)) e

  from_drop : (xs : List A) (n i j : ℕ) (x : A) → j ≡ n + i → slice_get (drop n xs) i ≡ Some x → slice_get xs j ≡ Some x
  from_drop xs zero i j x at e = let same : i ≡ j = omega (arith, at) in subst (λ k. slice_get xs k ≡ Some x) same e
  from_drop [] (suc n) i j x at e = cc
  from_drop (a ∷ xs) (suc n) i zero x at e = absurd (omega (arith, at))
  from_drop (a ∷ xs) (suc n) i (suc j) x at e = from_drop xs n i j x (omega (arith, at)) e

  to_drop : (xs : List A) (n i j : ℕ) (x : A) → j ≡ n + i → slice_get xs j ≡ Some x → slice_get (drop n xs) i ≡ Some x
  to_drop xs zero i j x at e = let same : j ≡ i = omega (arith, at) in subst (λ k. slice_get xs k ≡ Some x) same e
  to_drop [] (suc n) i j x at e = cc
  to_drop (a ∷ xs) (suc n) i zero x at e = absurd (omega (arith, at))
  to_drop (a ∷ xs) (suc n) i (suc j) x at e = to_drop xs n i j x (omega (arith, at)) e

  in_front : (xs ys : List A) (i : ℕ) (x : A) → i < length xs → slice_get (xs ++ ys) i ≡ Some x → slice_get xs i ≡ Some x
  in_front [] ys i x less e = absurd (omega (arith, less))
  in_front (a ∷ xs) ys zero x less e = e
  in_front (a ∷ xs) ys (suc i) x less e = in_front xs ys i x (omega (arith, less)) e

  in_back : (xs ys : List A) (i j : ℕ) (x : A) → j ≡ length xs + i → slice_get (xs ++ ys) j ≡ Some x → slice_get ys i ≡ Some x
  in_back [] ys i j x at e = let same : j ≡ i = omega (arith, at) in subst (λ k. slice_get ys k ≡ Some x) same e
  in_back (a ∷ xs) ys i zero x at e = absurd (omega (arith, at))
  in_back (a ∷ xs) ys i (suc j) x at e = in_back xs ys i j x (omega (arith, at)) e

module _ {A B : Type 0} (P : ℕ → A → B → Type 0) (first n : ℕ) where
  pub pair_front : (xs : List A) (ys : List B) → EachPair (λ i. P (first + i)) xs ys → EachPair (λ i. P (first + i)) (take n xs) (take n ys)
  pair_front xs ys each i x y at there = each i x y (from_take xs n i x at) (from_take ys n i y there)

  pub pair_back : (xs : List A) (ys : List B) → EachPair (λ i. P (first + i)) xs ys → EachPair (λ i. P (first + n + i)) (drop n xs) (drop n ys)
  pair_back xs ys each i x y at there =
      let same : first + (n + i) ≡ first + n + i = omega arith in
      subst (λ k. P k x y) same (each (n + i) x y (from_drop xs n i (n + i) x refl at) (from_drop ys n i (n + i) y refl there))

  pub pair_both : (xs : List A) (front back : List B) → length front ≡ n → EachPair (λ i. P (first + i)) (take n xs) front → EachPair (λ i. P (first + n + i)) (drop n xs) back → EachPair (λ i. P (first + i)) xs (front ++ back)
  pair_both xs front back many one other i x y at there = by (ltb i n) refl
    where
      by : (b : Bool) → ltb i n ≡ b → P (first + i) x y
      by true is =
          let less : i < n = grind (arith, nat_tests, is) in
          one i x y (to_take xs n i x less at) (in_front front back i y (omega (arith, less, many)) there)
      by false is =
          let past : n ≤ i = grind (arith, nat_tests, is) in
          let place : i ≡ n + (i - n) = omega (arith, past) in
          let same : first + n + (i - n) ≡ first + i = omega (arith, past) in
          subst (λ k. P k x y) same (other (i - n) x y (to_drop xs n (i - n) i x place at) (in_back front back (i - n) i y (omega (arith, past, many)) there))

-- what is done with the only one is done with all
pub where_done : {E : Type 0} (done : Result Unit E) (P Q : Type 0) → (P → Q) → OnOk done P → OnOk done Q
where_done (Ok x) P Q each holds = each holds
where_done (Err e) P Q each holds = tt

written : {B : Type 0} (ys : List B) (y other : B) → slice_get (slice_set ys 0 y) 0 ≡ Some other → y ≡ other
written [] y other e = cc
written (b ∷ ys) y other e = same_Some y other e

pub pair_alone : {A B : Type 0} (P : ℕ → A → B → Type 0) (first : ℕ) (xs : List A) (ys : List B) (x : A) (y : B) → length xs ≤ 1 → slice_get xs 0 ≡ Some x → P first x y → EachPair (λ i. P (first + i)) xs (slice_set ys 0 y)
pair_alone P first xs ys x y few at holds i one other there theirs =
    let zeroth : i ≡ 0 = omega (arith, few, slice_get_within xs i one there) in
    let same : x ≡ one = same_Some x one (sym at ∙ sym (ap (slice_get xs) zeroth) ∙ there) in
    let set_is : y ≡ other = written ys y other (sym (ap (slice_get (slice_set ys 0 y)) zeroth) ∙ theirs) in
    let number : first ≡ first + i = omega (arith, zeroth) in
    subst (λ (k : ℕ). P k one other) number (subst (λ (b : _). P first one b) set_is (subst (λ (a : _). P first a y) same holds))

-- what follows of each value follows of a value that there may be
pub where_ok : {X E : Type 0} (P Q : X → Type 0) → ((x : X) → P x → Q x) → (result : Result X E) → IfOk result P → IfOk result Q
where_ok P Q each (Ok x) holds = each x holds
where_ok P Q each (Err e) holds = tt

-- a list that is not empty
pub some_there : {X : Type 0} (xs : List X) (empty : Bool) → empty ≡ eqb (length xs) 0 → empty ≡ false → 0 < length xs
some_there [] empty is some = let no : true ≡ false = sym is ∙ some in cc
some_there (x ∷ xs) empty is some = omega arith

-- two things are done
pub where_both : {E : Type 0} (done : Result Unit E) (P Q S : Type 0) → (P → Q → S) → OnOk done P → OnOk done Q → OnOk done S
where_both (Ok x) P Q S each one other = each one other
where_both (Err e) P Q S each one other = tt

-- what holds stays so, whatever else was done
holds_anyway : {E : Type 0} (P : Type 0) (other : Result Unit E) → P → OnOk other P
holds_anyway P (Ok y) done = done
holds_anyway P (Err e) done = tt

-- what was done first stays so
pub stays_done : {E : Type 0} (P : Type 0) (one other : Result Unit E) (x : Unit) → one ≡ Ok x → OnOk one P → OnOk other P
stays_done P one other x is holds = holds_anyway P other (subst (λ r. OnOk r P) is holds)
