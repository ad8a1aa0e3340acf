-- Lists of rows.
use Rattle.std.proofs.Common.{◌≡◌, ℕ, zero, suc, ◌+◌, ◌-◌, ◌*◌, ◌<◌, ◌≤◌, ◌⊎◌, ltb, length, Bool, true, false, cond, eqb, ◌&&◌, List, [], ◌∷◌, ◌++◌, refl, inl, inr, ⊎_elim, arith}
use Rattle.std.proofs.lemmas.Bool.{and_parts, eqb-true, or_cases, or_left, or_right, or_parts, and_from, eq-eqb, lt-ltb, le-ltb}
use Rattle.std.specs.List.{count_by}
use Rattle.std.proofs.lemmas.List.Sums.{sum_by-cons}
use Rattle.std.proofs.lemmas.Bool.Decides.{nat_tests}
use Rattle.phase_core.specs.State.{has_row, times, with_row}

append_old : (rows : List (ℕ × ℕ)) (o i q j : ℕ) → has_row rows q j ≡ true → has_row (rows ++ (o, i) ∷ []) q j ≡ true
append_old [] o i q j e = absurd (cc)
append_old (r ∷ rows) o i q j e =
    ⊎_elim (λ here. or_left _ _ here) (λ later. or_right _ _ (append_old rows o i q j later))
    (or_cases (eqb (r.0) q && eqb (r.1) j) (has_row rows q j) e)

append_here : (rows : List (ℕ × ℕ)) (o i : ℕ) → has_row (rows ++ (o, i) ∷ []) o i ≡ true
append_here [] o i = grind (arith, nat_tests)
append_here (r ∷ rows) o i = or_right _ _ (append_here rows o i)

append_split : (rows : List (ℕ × ℕ)) (o i q j : ℕ) → has_row (rows ++ (o, i) ∷ []) q j ≡ true
    → (has_row rows q j ≡ true) ⊎ ((q ≡ o) × (j ≡ i))
append_split [] o i q j e =
    ⊎_elim
    (λ (here : (eqb o q && eqb i j) ≡ true).
    let parts = and_parts _ _ here in
    let same : o ≡ q = eqb-true o q parts.0 in
    let row : i ≡ j = eqb-true i j parts.1 in inr (cc, cc))
    (λ (none : false ≡ true). absurd (cc))
    (or_cases (eqb o q && eqb i j) false e)
append_split (r ∷ rows) o i q j e =
    ⊎_elim (λ here. inl (or_left _ _ here))
    (λ later. ⊎_elim (λ old. inl (or_right _ _ old)) (λ new. inr new) (append_split rows o i q j later))
    (or_cases (eqb (r.0) q && eqb (r.1) j) (has_row (rows ++ (o, i) ∷ []) q j) e)

module _ (rows : List (ℕ × ℕ)) (o i : ℕ) where
  here_by : (b : Bool) → has_row rows o i ≡ b → has_row (cond b rows (rows ++ (o, i) ∷ [])) o i ≡ true
  here_by true e = e
  here_by false e = append_here rows o i

  -- the row that was read is there
  pub with_row_here : has_row (with_row rows o i) o i ≡ true
  with_row_here = here_by (has_row rows o i) refl

  old_by : (b : Bool) (q j : ℕ) → has_row rows q j ≡ true → has_row (cond b rows (rows ++ (o, i) ∷ [])) q j ≡ true
  old_by true q j e = e
  old_by false q j e = append_old rows o i q j e

  pub with_row_old : (q j : ℕ) → has_row rows q j ≡ true → has_row (with_row rows o i) q j ≡ true
  with_row_old q j e = old_by (has_row rows o i) q j e

  split_by : (b : Bool) (q j : ℕ) → has_row (cond b rows (rows ++ (o, i) ∷ [])) q j ≡ true
      → (has_row rows q j ≡ true) ⊎ ((q ≡ o) × (j ≡ i))
  split_by true q j e = inl e
  split_by false q j e = append_split rows o i q j e

  -- a row that is there now was there, or is the one that was read
  pub with_row_split : (q j : ℕ) → has_row (with_row rows o i) q j ≡ true
      → (has_row rows q j ≡ true) ⊎ ((q ≡ o) × (j ≡ i))
  with_row_split q j e = split_by (has_row rows o i) q j e

-- each row stays once

times_none : (rows : List (ℕ × ℕ)) (o i : ℕ) → has_row rows o i ≡ false → times rows o i ≡ 0
times_none [] o i e = refl
times_none (r ∷ rows) o i e =
    let parts = or_parts (eqb (r.0) o && eqb (r.1) i) (has_row rows o i) e in
    rw (sum_by-cons (λ s. cond (eqb (s.0) o && eqb (s.1) i) 1 0) r rows) (rw parts.0 (let rest = times_none rows o i parts.1 in omega (arith, rest)))

times_append : (rows : List (ℕ × ℕ)) (o i q j : ℕ)
    → times (rows ++ (o, i) ∷ []) q j ≡ times rows q j + cond (eqb o q && eqb i j) 1 0
times_append [] o i q j = refl
times_append (r ∷ rows) o i q j =
    rw (sum_by-cons (λ s. cond (eqb (s.0) q && eqb (s.1) j) 1 0) r (rows ++ (o, i) ∷ []), sum_by-cons (λ s. cond (eqb (s.0) q && eqb (s.1) j) 1 0) r rows)
    (let rest = times_append rows o i q j in omega (arith, rest))

pub times_with_row : (rows : List (ℕ × ℕ)) (o i : ℕ) → ((q j : ℕ) → times rows q j ≤ 1) → (q j : ℕ) → times (with_row rows o i) q j ≤ 1
times_with_row rows o i once q j = by_has (has_row rows o i) refl where
  by_has : (b : Bool) → has_row rows o i ≡ b → times (cond b rows (rows ++ (o, i) ∷ [])) q j ≤ 1
  by_has true e = once q j
  by_has false e = by_same (eqb o q && eqb i j) refl where
    by_same : (b : Bool) → (eqb o q && eqb i j) ≡ b → times (rows ++ (o, i) ∷ []) q j ≤ 1
    by_same true same =
        let parts = and_parts (eqb o q) (eqb i j) same in
        let object : o ≡ q = eqb-true o q parts.0 in
        let row : i ≡ j = eqb-true i j parts.1 in
        let none : times rows q j ≡ 0 = rw (← object, ← row) (times_none rows o i e) in
        let more = times_append rows o i q j in
        rw (more, same) (omega (arith, none))
    by_same false other =
        let more = times_append rows o i q j in
        let old = once q j in
        rw (more, other) (omega (arith, old))

-- rows of few objects, two of each at most, are few

-- how many rows of an object the list has
abbrev pub rows_of : List (ℕ × ℕ) → ℕ → ℕ
rows_of rows o = count_by (λ r. eqb (r.0) o) rows

-- and of all objects below a number
abbrev rows_below : List (ℕ × ℕ) → ℕ → ℕ
rows_below rows zero = 0
rows_below rows (suc n) = rows_below rows n + rows_of rows n

rows_below_more : (r : ℕ × ℕ) (rows : List (ℕ × ℕ)) (n : ℕ)
    → rows_below (r ∷ rows) n ≡ rows_below rows n + cond (ltb (r.0) n) 1 0
rows_below_more r rows zero = rw (le-ltb (r.0) 0 (omega arith)) refl
rows_below_more r rows (suc n) =
    let rest = rows_below_more r rows n in
    let here = sum_by-cons (λ s. cond (eqb (s.0) n) 1 0) r rows in
    rw (rest, here) (by_test (eqb (r.0) n) refl (ltb (r.0) n) refl)
  where
    by_test : (b : Bool) → eqb (r.0) n ≡ b → (d : Bool) → ltb (r.0) n ≡ d
        → (rows_below rows n + cond d 1 0) + (cond b 1 0 + rows_of rows n) ≡ (rows_below rows n + rows_of rows n) + cond (ltb (r.0) (suc n)) 1 0
    by_test b e d f = grind (arith, nat_tests, e, f)

length_rows : (rows : List (ℕ × ℕ)) (n : ℕ) → ((o i : ℕ) → has_row rows o i ≡ true → o < n) → length rows ≡ rows_below rows n
length_rows [] zero there = refl
length_rows [] (suc n) there = let rest = length_rows [] n (λ o i has. absurd (cc)) in omega (arith, rest)
length_rows (r ∷ rows) n there =
    let rest = length_rows rows n (λ o i has. there o i (or_right _ _ has)) in
    let first : r.0 < n = there (r.0) (r.1) (or_left _ _ (and_from _ _ (eq-eqb (r.0) (r.0) refl) (eq-eqb (r.1) (r.1) refl))) in
    rw (rows_below_more r rows n, lt-ltb (r.0) n first) (omega (arith, rest))

-- rows of an object that are of one of two numbers
rows_of_two : (rows : List (ℕ × ℕ)) (o a b : ℕ) → ((i : ℕ) → has_row rows o i ≡ true → (i ≡ a) ⊎ (i ≡ b))
    → rows_of rows o ≤ times rows o a + times rows o b
rows_of_two [] o a b two = omega arith
rows_of_two (r ∷ rows) o a b two =
    let rest = rows_of_two rows o a b (λ i has. two i (or_right _ _ has)) in
    rw (
      sum_by-cons (λ s. cond (eqb (s.0) o) 1 0) r rows,
      sum_by-cons (λ s. cond (eqb (s.0) o && eqb (s.1) a) 1 0) r rows,
      sum_by-cons (λ s. cond (eqb (s.0) o && eqb (s.1) b) 1 0) r rows,
    )
    (by_test rest (eqb (r.0) o) refl)
  where
    by_test : rows_of rows o ≤ times rows o a + times rows o b → (d : Bool) → eqb (r.0) o ≡ d
        → cond d 1 0 + rows_of rows o ≤ (cond (d && eqb (r.1) a) 1 0 + times rows o a) + (cond (d && eqb (r.1) b) 1 0 + times rows o b)
    by_test rest false e = omega (arith, rest)
    by_test rest true e =
        ⊎_elim
        (λ (first : r.1 ≡ a). rw (eq-eqb (r.1) a first) (omega (arith, rest)))
        (λ (second : r.1 ≡ b). rw (eq-eqb (r.1) b second) (omega (arith, rest)))
        (two (r.1) (or_left _ _ (and_from _ _ e (eq-eqb (r.1) (r.1) refl))))

rows_below_two : (rows : List (ℕ × ℕ)) (n : ℕ) → ((o : ℕ) → rows_of rows o ≤ 2) → rows_below rows n ≤ 2 * n
rows_below_two rows zero two = omega arith
rows_below_two rows (suc n) two = let rest = rows_below_two rows n two in let here = two n in omega (arith, rest, here)

-- each row once, of objects that are there, and of an object only its incarnation and the one before
pub few_rows : (rows : List (ℕ × ℕ)) (n : ℕ) (incarnation : ℕ → ℕ) → ((o i : ℕ) → has_row rows o i ≡ true → o < n)
    → ((o i : ℕ) → times rows o i ≤ 1)
    → ((o i : ℕ) → has_row rows o i ≡ true → (i ≡ incarnation o) ⊎ (i + 1 ≡ incarnation o))
    → length rows ≤ 2 * n
few_rows rows n incarnation there once recent =
    let many = length_rows rows n there in
    let few = rows_below_two rows n (λ o.
    let one = once o (incarnation o) in
    let other = once o (incarnation o - 1) in
    let both = rows_of_two rows o (incarnation o) (incarnation o - 1) (λ i has. ⊎_elim (λ e. inl e) (λ e. inr (omega (arith, e))) (recent o i has)) in
    omega (arith, one, other, both)) in
    omega (arith, many, few)
