-- Which items are whose, and what stands at the places of lists.
use Rattle.std.proofs.Common.{◌≡◌, ◌≢◌, ℕ, zero, suc, ◌+◌, ◌<◌, Bool, true, false, ◌==◌, if◌then◌else◌, List, [], ◌∷◌, ◌++◌, Option, Some, None, length, set, ⊎_elim, refl, sym, ap, ◌∙◌, arith}
use Rattle.std.specs.Prelude.{slice_get, is_some, count_by}
use Rattle.std.proofs.lemmas.Bool.{eq-eqb, eqb-true}
use Rattle.std.proofs.lemmas.Option.{same_Some}
use Rattle.k42_places.specs.Places.{EachPlace}
use Rattle.k42_places.proofs.Written.{at_set}
use Rattle.swap_future.specs.Rolling.{items_of}
use Rattle.swap_future.specs.Rounds.{IsRising}

-- something stands at a place of the list
pub there : {A : Type 0} (xs : List A) (i : ℕ) → i < length xs → (x : A) × (slice_get xs i ≡ Some x)
there [] i less = absurd (omega arith)
there (x ∷ xs) zero less = (x, refl)
there (x ∷ xs) (suc i) less = there xs i (omega arith)

pub each_append : {A : Type 0} (P : A → Type 0) (xs ys : List A) → EachPlace (λ i. P) xs → EachPlace (λ i. P) ys → EachPlace (λ i. P) (xs ++ ys)
each_append P [] ys left right i x at = right i x at
each_append P (z ∷ xs) ys left right zero x at = left zero x at
each_append P (z ∷ xs) ys left right (suc i) x at = each_append P xs ys (λ j. left (suc j)) right i x at

chosen : (b : Bool) (first : ℕ) (all front back : List ℕ) → all ≡ front ++ back
    → (if b then first ∷ all else all) ≡ (if b then first ∷ front else front) ++ back
chosen true first all front back is = ap (λ items. first ∷ items) is
chosen false first all front back is = is

pub items_of-append : (place first : ℕ) (takers more : List ℕ)
    → items_of place first (takers ++ more) ≡ items_of place first takers ++ items_of place (first + length takers) more
items_of-append place first [] more = ap (λ n. items_of place n more) (let same : first ≡ first + 0 = omega arith in same)
items_of-append place first (taker ∷ takers) more =
    chosen (taker == place) first (items_of place (first + 1) (takers ++ more)) (items_of place (first + 1) takers) (items_of place (first + suc (length takers)) more)
    (items_of-append place (first + 1) takers more
    ∙ ap (λ n. items_of place (first + 1) takers ++ items_of place n more) (let same : first + 1 + length takers ≡ first + suc (length takers) = omega arith in same))

pub item_of_taker : (place first : ℕ) → items_of place first (place ∷ []) ≡ first ∷ []
item_of_taker place first = rw (eq-eqb place place refl) refl

pub no_item_of_others : (place other first : ℕ) → place ≢ other → items_of place first (other ∷ []) ≡ []
no_item_of_others place other first differs = go (other == place) refl where
  go : (b : Bool) → (other == place) ≡ b → (if b then first ∷ [] else []) ≡ []
  go true is = absurd (differs (sym (eqb-true other place is)))
  go false is = refl

-- those of a pass behind these takers
pub no_items_below : (place first : ℕ) (takers : List ℕ) → EachPlace (λ i taker. taker < place) takers → items_of place first takers ≡ []
no_items_below place first [] below = refl
no_items_below place first (taker ∷ takers) below =
    go (taker == place) refl (no_items_below place (first + 1) takers (λ i. below (suc i)))
  where
    go : (b : Bool) → (taker == place) ≡ b → items_of place (first + 1) takers ≡ []
        → (if b then first ∷ items_of place (first + 1) takers else items_of place (first + 1) takers) ≡ []
    go true is none = absurd (let less = below 0 taker refl in let same = eqb-true taker place is in omega (arith, less, same))
    go false is none = none

-- one more taker behind the others
pub rising_next : (place : ℕ) (takers : List ℕ) → IsRising takers → EachPlace (λ i taker. taker < place) takers → IsRising (takers ++ place ∷ [])
rising_next place [] rising below i p q at_p at_q = absurd (cc)
rising_next place (x ∷ []) rising below zero p q at_p at_q =
    let first = same_Some x p at_p in let next = same_Some place q at_q in let less = below 0 x refl in omega (arith, first, next, less)
rising_next place (x ∷ []) rising below (suc i) p q at_p at_q = absurd (cc)
rising_next place (x ∷ y ∷ takers) rising below zero p q at_p at_q = rising 0 p q at_p at_q
rising_next place (x ∷ y ∷ takers) rising below (suc i) p q at_p at_q =
    rising_next place (y ∷ takers) (λ j. rising (suc j)) (λ j. below (suc j)) i p q at_p at_q

-- where something is counted, it stands somewhere
pub one_counted : {A : Type 0} (os : List (Option A)) → 0 < count_by is_some os → (place : ℕ) × (x : A) × (slice_get os place ≡ Some (Some x))
one_counted [] some = absurd (omega arith)
one_counted (Some x ∷ os) some = (0, x, refl)
one_counted (None ∷ os) some = let rest = one_counted os some in (suc rest.0, rest.1, rest.2)

-- the place that was written
pub set_here : {A : Type 0} (xs : List A) (place other : ℕ) (x y : A) → other ≡ place → slice_get (set xs place x) other ≡ Some y → x ≡ y
set_here xs place other x y same at = ⊎_elim (λ t. t.1) (λ t. absurd (t.0 same)) (at_set xs place other x y at)

pub set-set : {A : Type 0} (xs : List A) (i : ℕ) (x y : A) → set (set xs i x) i y ≡ set xs i y
set-set [] i x y = refl
set-set (z ∷ xs) zero x y = refl
set-set (z ∷ xs) (suc i) x y = ap (λ rest. z ∷ rest) (set-set xs i x y)

pub set_same : {A : Type 0} (xs : List A) (i : ℕ) (x : A) → slice_get xs i ≡ Some x → set xs i x ≡ xs
set_same [] i x at = refl
set_same (z ∷ xs) zero x at = ap (λ y. y ∷ xs) (sym (same_Some z x at))
set_same (z ∷ xs) (suc i) x at = ap (λ rest. z ∷ rest) (set_same xs i x at)
