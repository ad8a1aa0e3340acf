-- The names of rows, where one row is named by another seat.
use Rattle.std.proofs.Common.{◌≡◌, ◌≢◌, ℕ, zero, suc, Bool, true, false, cond, eqb, ◌&&◌, List, [], ◌∷◌, ◌++◌, Some, take, refl, sym, ap, subst}
use Rattle.std.specs.List.{slice_get}
use Rattle.std.proofs.lemmas.Bool.{and_parts, eqb-true, eq-eqb}
use Rattle.k42_board.specs.Queueing.{is_row}
use Rattle.k42_board.specs.declared.view.Row.{Row}
use Rattle.k42_board.proofs.Naming.{renamed}

row_is : (row other : Row) → is_row row other ≡ true → other ≡ row
row_is row other e =
    let parts = and_parts (eqb other.object row.object) (eqb other.incarnation row.incarnation) e in
    let o = eqb-true other.object row.object parts.0 in let i = eqb-true other.incarnation row.incarnation parts.1 in
    λ k. record { object = o k; incarnation = i k }

itself : (row : Row) → is_row row row ≡ true
itself row = subst (λ b. (b && eqb row.incarnation row.incarnation) ≡ true) (sym (eq-eqb row.object row.object refl)) (eq-eqb row.incarnation row.incarnation refl)

pub renamed_here : (row : Row) (seat : ℕ) (names : Row → ℕ) → renamed row seat names row ≡ seat
renamed_here row seat names = ap (λ b. cond b seat (names row)) (itself row)

pub renamed_else : (row : Row) (seat : ℕ) (names : Row → ℕ) (other : Row) → other ≢ row → renamed row seat names other ≡ names other
renamed_else row seat names other not = by_test (is_row row other) refl where
  by_test : (b : Bool) → is_row row other ≡ b → cond b seat (names other) ≡ names other
  by_test true is = absurd (not (row_is row other is))
  by_test false is = refl

-- a row that the seat names already is named by it still
pub renamed_both : (row : Row) (seat : ℕ) (names : Row → ℕ) (other : Row) → names other ≡ seat → renamed row seat names other ≡ seat
renamed_both row seat names other same = by_test (is_row row other) where
  by_test : (b : Bool) → cond b seat (names other) ≡ seat
  by_test true = refl
  by_test false = same

none_there : {A : Type 0} (i : ℕ) (a : A) → slice_get [] i ≡ Some a → ⊥
none_there i a e = cc

-- what stands among the first elements stands there also if there are more behind
pub in_front : {A : Type 0} (n : ℕ) (xs ys : List A) (i : ℕ) (a : A) → slice_get (take n xs) i ≡ Some a → slice_get (take n (xs ++ ys)) i ≡ Some a
in_front zero xs ys i a e = e
in_front (suc n) [] ys i a e = absurd (none_there i a e)
in_front (suc n) (x ∷ xs) ys zero a e = e
in_front (suc n) (x ∷ xs) ys (suc i) a e = in_front n xs ys i a e
