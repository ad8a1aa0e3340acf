-- What remains of a list without the cells of another.
use Rattle.std.proofs.Common.{◌≡◌, ℕ, Bool, true, false, not, ◌||◌, cond, eqb, List, [], ◌∷◌, ◌++◌, refl, sym, ap, ◌∙◌}
use Rattle.std.specs.Prelude.{map, ◌==◌}
use Rattle.std.specs.List.{filter}
use Rattle.std.proofs.lemmas.Bool.{eqb-true, eq-eqb}
use Rattle.turn_core.specs.Names.{names}

-- equality tests in either order
pub eqb_turned : (m n : ℕ) → eqb m n ≡ eqb n m
eqb_turned m n = go (eqb m n) (eqb n m) refl refl where
  go : (a b : Bool) → eqb m n ≡ a → eqb n m ≡ b → a ≡ b
  go true true e f = refl
  go false false e f = refl
  go true false e f = sym (eq-eqb n m (sym (eqb-true m n e))) ∙ f
  go false true e f = sym e ∙ eq-eqb m n (sym (eqb-true n m f))

or_false : (b : Bool) → b || false ≡ b
or_false true = refl
or_false false = refl

or_more : (a b c : Bool) → (a || b) || c ≡ a || (b || c)
or_more true b c = refl
or_more false b c = refl

-- names in two lists
pub names_more : (xs ys : List ℕ) (n : ℕ) → names (xs ++ ys) n ≡ names xs n || names ys n
names_more [] ys n = refl
names_more (x ∷ xs) ys n = ap (λ b. eqb x n || b) (names_more xs ys n) ∙ sym (or_more (eqb x n) (names xs n) (names ys n))

module _ {A : Type 0} (key : A → ℕ) where
  -- what has none of these names
  abbrev pub remaining : List ℕ → List A → List A
  remaining cells xs = filter (λ a. not (names cells (key a))) xs

  pub remaining_all : (xs : List A) → remaining [] xs ≡ xs
  remaining_all [] = refl
  remaining_all (x ∷ xs) = ap (λ rest. x ∷ rest) (remaining_all xs)

  -- one list taken away after the other
  pub remaining_twice : (cells others : List ℕ) (xs : List A) → remaining cells (remaining others xs) ≡ remaining (cells ++ others) xs
  remaining_twice cells others [] = refl
  remaining_twice cells others (x ∷ xs) =
      go (names others (key x)) (names cells (key x)) refl refl (remaining_twice cells others xs)
      ∙ ap (λ b. cond (not b) (x ∷ remaining (cells ++ others) xs) (remaining (cells ++ others) xs)) (sym (names_more cells others (key x)))
    where
      go : (a b : Bool) → names others (key x) ≡ a → names cells (key x) ≡ b
          → remaining cells (remaining others xs) ≡ remaining (cells ++ others) xs
          → remaining cells (cond (not (names others (key x))) (x ∷ remaining others xs) (remaining others xs))
          ≡ cond (not (names cells (key x) || names others (key x))) (x ∷ remaining (cells ++ others) xs) (remaining (cells ++ others) xs)
      go true true e f rest = rw (e, f) rest
      go true false e f rest = rw (e, f) rest
      go false true e f rest = rw (e, f) rest
      go false false e f rest = rw (e, f) (ap (λ others'. x ∷ others') rest)

  or_parts : (a b : Bool) → a || b ≡ false → (a ≡ false) × (b ≡ false)
  or_parts false b e = (refl, e)
  or_parts true b e = absurd (cc)

  -- a cell that the list does not have changes nothing
  pub remaining_same : (cells : List ℕ) (n : ℕ) (xs : List A) → names (map key xs) n ≡ false → remaining (cells ++ n ∷ []) xs ≡ remaining cells xs
  remaining_same cells n [] none = refl
  remaining_same cells n (x ∷ xs) none =
      let parts = or_parts (eqb (key x) n) (names (map key xs) n) none in
      let same : names (cells ++ n ∷ []) (key x) ≡ names cells (key x) =
      names_more cells (n ∷ []) (key x) ∙ ap (λ b. names cells (key x) || (b || false)) (eqb_turned n (key x) ∙ parts.0) ∙ or_false (names cells (key x)) in
      (λ i. cond (not (same i)) (x ∷ remaining_same cells n xs parts.1 i) (remaining_same cells n xs parts.1 i))

  -- nor does one that is taken away in any case
  pub remaining_head : (cells : List ℕ) (n : ℕ) (x : A) (xs : List A) → key x ≡ n → remaining (cells ++ n ∷ []) (x ∷ xs) ≡ remaining (cells ++ n ∷ []) xs
  remaining_head cells n x xs e =
      ap (λ b. cond (not b) (x ∷ remaining (cells ++ n ∷ []) xs) (remaining (cells ++ n ∷ []) xs))
      (names_more cells (n ∷ []) (key x) ∙ ap (λ b. names cells (key x) || (b || false)) (eq-eqb n (key x) (sym e)) ∙ or_last (names cells (key x)))
    where
      or_last : (b : Bool) → b || true ≡ true
      or_last true = refl
      or_last false = refl

  pub remaining_last : (cells : List ℕ) (n : ℕ) (x : A) (xs : List A) → key x ≡ n → remaining (cells ++ n ∷ []) (xs ++ x ∷ []) ≡ remaining (cells ++ n ∷ []) xs
  remaining_last cells n x [] e = remaining_head cells n x [] e
  remaining_last cells n x (y ∷ xs) e =
      λ i. cond (not (names (cells ++ n ∷ []) (key y))) (y ∷ remaining_last cells n x xs e i) (remaining_last cells n x xs e i)

  -- none of the names is left
  pub none_remains : (n : ℕ) (xs : List A) → names (map key (filter (λ a. not (key a == n)) xs)) n ≡ false
  none_remains n [] = refl
  none_remains n (x ∷ xs) = go (eqb (key x) n) refl (none_remains n xs) where
    go : (b : Bool) → eqb (key x) n ≡ b → names (map key (filter (λ a. not (key a == n)) xs)) n ≡ false → names (map key (cond (not (eqb (key x) n)) (x ∷ filter (λ a. not (key a == n)) xs) (filter (λ a. not (key a == n)) xs))) n ≡ false
    go true e rest = rw e rest
    go false e rest = rw e (rw e rest)

  -- a change of what is taken away is not seen
  pub remaining_mapped : (cells : List ℕ) (f : A → A) → ((a : A) → key (f a) ≡ key a) → ((a : A) → names cells (key a) ≡ false → f a ≡ a) → (xs : List A)
      → remaining cells (map f xs) ≡ remaining cells xs
  remaining_mapped cells f keeps others [] = refl
  remaining_mapped cells f keeps others (x ∷ xs) =
      ap (λ n. cond (not (names cells n)) (f x ∷ remaining cells (map f xs)) (remaining cells (map f xs))) (keeps x)
      ∙ go (names cells (key x)) refl (remaining_mapped cells f keeps others xs)
    where
      go : (b : Bool) → names cells (key x) ≡ b → remaining cells (map f xs) ≡ remaining cells xs
          → cond (not (names cells (key x))) (f x ∷ remaining cells (map f xs)) (remaining cells (map f xs))
          ≡ cond (not (names cells (key x))) (x ∷ remaining cells xs) (remaining cells xs)
      go true e rest = rw e rest
      go false e rest = rw e (λ i. others x e i ∷ rest i)

  -- one name, in either way
  pub remaining_one : (n : ℕ) (xs : List A) → filter (λ a. not (key a == n)) xs ≡ remaining (n ∷ []) xs
  remaining_one n xs = λ i. filter (λ a. not ((eqb_turned (key a) n ∙ sym (or_false (eqb n (key a)))) i)) xs
