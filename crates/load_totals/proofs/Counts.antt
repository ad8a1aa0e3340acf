-- Sums and counts over lists, and over the numbers from a first one on.
use Rattle.std.proofs.Common.{◌≡◌, ℕ, zero, suc, ◌+◌, ◌<◌, ◌≤◌, Bool, true, false, cond, ◌||◌, if◌then◌else◌, List, [], ◌∷◌, length, sum_by, count_by, eqb, ltb, refl, sym, ap, ◌∙◌, true≢false, arith}
use Rattle.std.specs.List.{AllByRecursion, list_any, range_with_len}
use Rattle.std.proofs.lemmas.Bool.{eqb-true, eqb-false, ne_eqb, lt-ltb}
use Rattle.std.proofs.lemmas.List.Sums.{sum_by-cons}

-- what a test adds to a count
abbrev pub mark : Bool → ℕ
mark passes = cond passes 1 0

pub count_all : {X : Type 0} (xs : List X) → sum_by (λ x. 1) xs ≡ length xs
count_all [] = refl
count_all (x ∷ xs) = omega (arith, sum_by-cons (λ x. 1) x xs, count_all xs)

-- equal terms, equal sums
pub sum_by_same : {X : Type 0} (f g : X → ℕ) → ((x : X) → f x ≡ g x) → (xs : List X) → sum_by f xs ≡ sum_by g xs
sum_by_same f g each xs = ap (λ h. sum_by h xs) (λ i x. each x i)

pub list_any_same : {X : Type 0} (p q : X → Bool) → ((x : X) → p x ≡ q x) → (xs : List X) → list_any p xs ≡ list_any q xs
list_any_same p q each xs = ap (λ h. list_any h xs) (λ i x. each x i)

pub count_by_alike : {X : Type 0} (p q : X → Bool) (xs : List X) → AllByRecursion (λ x. p x ≡ q x) xs → count_by p xs ≡ count_by q xs
count_by_alike p q [] alike = refl
count_by_alike p q (x ∷ xs) alike = omega (arith, sum_by-cons (λ x. cond (p x) 1 0) x xs, sum_by-cons (λ x. cond (q x) 1 0) x xs, count_by_alike p q xs alike.1, ap mark alike.0)

pub sum_by_plus : {X : Type 0} (f g h : X → ℕ) → ((x : X) → f x ≡ g x + h x) → (xs : List X) → sum_by f xs ≡ sum_by g xs + sum_by h xs
sum_by_plus f g h each [] = refl
sum_by_plus f g h each (x ∷ xs) = omega (arith, sum_by-cons f x xs, sum_by-cons g x xs, sum_by-cons h x xs, each x, sum_by_plus f g h each xs)

any_by : (first rest : Bool) (count : ℕ) → rest ≡ ltb 0 count → (first || rest) ≡ ltb 0 (cond first 1 0 + count)
any_by true rest count same = sym (lt-ltb 0 (1 + count) (omega arith))
any_by false rest count same = same ∙ ap (ltb 0) (omega arith)

-- there is an element that passes where some are counted
pub any_by_count : {X : Type 0} (p : X → Bool) (xs : List X) → list_any p xs ≡ ltb 0 (count_by p xs)
any_by_count p [] = refl
any_by_count p (x ∷ xs) = any_by (p x) (list_any p xs) (count_by p xs) (any_by_count p xs) ∙ ap (ltb 0) (sym (sum_by-cons (λ x. cond (p x) 1 0) x xs))

sum_over_range : (f g h : ℕ → ℕ) (first many : ℕ) → ((j : ℕ) → first ≤ j → j < first + many → f j ≡ g j + h j) → sum_by f (range_with_len first many) ≡ sum_by g (range_with_len first many) + sum_by h (range_with_len first many)
sum_over_range f g h first zero each = refl
sum_over_range f g h first (suc many) each =
    let rest = range_with_len (first + 1) many in
    omega (arith, sum_by-cons f first rest, sum_by-cons g first rest, sum_by-cons h first rest, each first (omega arith) (omega arith), sum_over_range f g h (first + 1) many (λ j low high. each j (omega arith) (omega arith)))

pub count_over_range : (p q : ℕ → Bool) (first many : ℕ) → ((j : ℕ) → first ≤ j → j < first + many → p j ≡ q j) → count_by p (range_with_len first many) ≡ count_by q (range_with_len first many)
count_over_range p q first zero each = refl
count_over_range p q first (suc many) each =
    let rest = range_with_len (first + 1) many in
    omega (arith, sum_by-cons (λ j. cond (p j) 1 0) first rest, sum_by-cons (λ j. cond (q j) 1 0) first rest, ap mark (each first (omega arith) (omega arith)), count_over_range p q (first + 1) many (λ j low high. each j (omega arith) (omega arith)))

not_before : (i first many : ℕ) → i < first → count_by (eqb i) (range_with_len first many) ≡ 0
not_before i first zero less = refl
not_before i first (suc many) less =
    omega (arith, sum_by-cons (λ j. cond (eqb i j) 1 0) first (range_with_len (first + 1) many), ap mark (ne_eqb i first (λ same. omega (arith, same, less))), not_before i (first + 1) many (omega (arith, less)))

once_by : (i first many : ℕ) (here : Bool) → eqb i first ≡ here → first ≤ i → i < first + suc many → (first + 1 ≤ i → i < first + 1 + many → count_by (eqb i) (range_with_len (first + 1) many) ≡ 1) → count_by (eqb i) (range_with_len first (suc many)) ≡ 1
once_by i first many true here low high later =
    omega (arith, sum_by-cons (λ j. cond (eqb i j) 1 0) first (range_with_len (first + 1) many), ap mark here, not_before i (first + 1) many (omega (arith, eqb-true i first here)))
once_by i first many false here low high later =
    let apart : first + 1 ≤ i = omega (arith, low, eqb-false i first here) in
    omega (arith, sum_by-cons (λ j. cond (eqb i j) 1 0) first (range_with_len (first + 1) many), ap mark here, later apart (omega (arith, high)))

-- a number of the range stands there once
once : (i first many : ℕ) → first ≤ i → i < first + many → count_by (eqb i) (range_with_len first many) ≡ 1
once i first zero low high = absurd (omega (arith, low, high))
once i first (suc many) low high = once_by i first many (eqb i first) refl low high (λ low high. once i (first + 1) many low high)

marks : (p e : Bool) → (p ≡ true → e ≡ true → ⊥) → cond (p || e) 1 0 ≡ cond p 1 0 + cond e 1 0
marks true true apart = absurd (apart refl refl)
marks true false apart = refl
marks false true apart = refl
marks false false apart = refl

absorbed : (p e : Bool) → (e ≡ true → p ≡ true) → (p || e) ≡ p
absorbed true e within = refl
absorbed false true within = sym (within refl)
absorbed false false within = refl

grown_by : (p q : ℕ → Bool) (i many : ℕ) (here : Bool) → p i ≡ here → i < many → ((j : ℕ) → j < many → q j ≡ (p j || eqb i j)) → count_by q (range_with_len 0 many) ≡ (if here then count_by p (range_with_len 0 many) else count_by p (range_with_len 0 many) + 1)
grown_by p q i many true here less each =
    count_over_range q p 0 many (λ j low high. each j (omega arith) ∙ absorbed (p j) (eqb i j) (λ same. ap p (sym (eqb-true i j same)) ∙ here))
grown_by p q i many false here less each =
    omega (
      arith,
      once i 0 many (omega arith) (omega (arith, less)),
      sum_over_range (λ j. cond (q j) 1 0) (λ j. cond (p j) 1 0) (λ j. cond (eqb i j) 1 0) 0 many
          (λ j low high. ap mark (each j (omega arith)) ∙ marks (p j) (eqb i j) (λ yes same. true≢false (sym yes ∙ ap p (sym (eqb-true i j same)) ∙ here))),
    )

-- where one number more passes, the count is one more, if that number did not pass before
pub grown : (p q : ℕ → Bool) (i many : ℕ) → i < many → ((j : ℕ) → j < many → q j ≡ (p j || eqb i j)) → count_by q (range_with_len 0 many) ≡ (if p i then count_by p (range_with_len 0 many) else count_by p (range_with_len 0 many) + 1)
grown p q i many less each = grown_by p q i many (p i) refl less each
