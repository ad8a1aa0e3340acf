-- A pass holds each row once, and each is of an incarnation that its object has had.
use Rattle.std.proofs.Common.{◌≡◌, ◌≢◌, ℕ, suc, ◌+◌, ◌*◌, ◌<◌, ◌≤◌, ◌||◌, Bool, true, false, eqb, ne_eqb, List, [], ◌∷◌, Some, length, map, refl, sym, ap, ◌∙◌, arith}
use Rattle.std.specs.List.{AllByRecursion, IsDistinct, list_any, slice_get}
use Rattle.std.proofs.lemmas.Bool.{eqb-true}
use Rattle.std.proofs.lemmas.List.{length-map}
use Rattle.std.proofs.lemmas.Map.Steps.{length-le_from_distinct_below}
use Rattle.k42_limits.specs.declared.TheConstants.{LAST_INCARNATION, OBJECTS}
use Rattle.k42_places.specs.Places.{EachPlace}
use Rattle.k42_stamp.specs.Layouts.{Layouts}
use Rattle.k42_board.specs.Queueing.{MOST_ROWS, HoldsFew}
use Rattle.k42_board.specs.Rule.{AreOnce}
use Rattle.k42_board.specs.declared.view.PassView.{PassView}
use Rattle.k42_board.specs.declared.view.Row.{Row}
use Rattle.k42_board.proofs.Moves.{Finds}
use Rattle.k42_board.proofs.OnePass.{known}
use Rattle.k42_board.proofs.Roles.{old_there, old_small}

-- the number of a row among all that there may be
abbrev number_of : Row → ℕ
number_of row = row.object * LAST_INCARNATION + row.incarnation

record IsLow (row : Row) : Type 0 where
  object : row.object < OBJECTS
  incarnation : row.incarnation < LAST_INCARNATION

numbers_apart : (row other : Row) → IsLow row → IsLow other → number_of row ≡ number_of other → row ≡ other
numbers_apart row other low low' same =
    let a = low.object in let b = low.incarnation in let c = low'.object in let d = low'.incarnation in
    let object : row.object ≡ other.object = omega (arith, a, b, c, d, same) in
    let incarnation : row.incarnation ≡ other.incarnation = omega (arith, a, b, c, d, same) in
    λ k. record { object = object k; incarnation = incarnation k }

abbrev AreLow : List Row → Type 0
AreLow rows = EachPlace (λ place row. IsLow row) rows

apart_from : (row : Row) (rows : List Row) → ((place : ℕ) (other : Row) → slice_get rows place ≡ Some other → number_of row ≢ number_of other)
    → AllByRecursion (λ n. eqb (number_of row) n ≡ false) (map number_of rows)
apart_from row [] apart = tt
apart_from row (other ∷ rows) apart =
    (ne_eqb (number_of row) (number_of other) (apart 0 other refl), apart_from row rows (λ place x e. apart (suc place) x e))

numbers_distinct : (rows : List Row) → AreLow rows → AreOnce rows → IsDistinct eqb (map number_of rows)
unfolding IsDistinct
numbers_distinct [] low once = tt
numbers_distinct (row ∷ rows) low once = (
  apart_from row rows
      (λ place other e same.
      let one = once 0 (suc place) row refl (e ∙ ap Some (sym (numbers_apart row other (low 0 row refl) (low (suc place) other e) same))) in absurd (omega (arith, one))),
  numbers_distinct rows (λ place x e. low (suc place) x e) (λ i j x e f. let one = once (suc i) (suc j) x e f in omega (arith, one)),
)

number_low : (row : Row) → IsLow row → number_of row < MOST_ROWS
number_low row low = let a = low.object in let b = low.incarnation in omega (arith, a, b)

numbers_low : (rows : List Row) → AreLow rows → (n : ℕ) → list_any (eqb n) (map number_of rows) ≡ true → n < MOST_ROWS
numbers_low [] low n e = absurd (cc)
numbers_low (row ∷ rows) low n e = by_test (eqb n (number_of row)) refl (numbers_low rows (λ place x f. low (suc place) x f) n) e where
  by_test : (b : Bool) → eqb n (number_of row) ≡ b → (list_any (eqb n) (map number_of rows) ≡ true → n < MOST_ROWS)
      → (b || list_any (eqb n) (map number_of rows)) ≡ true → n < MOST_ROWS
  by_test true here rest any = let is = eqb-true n (number_of row) here in let small = number_low row (low 0 row refl) in omega (arith, is, small)
  by_test false here rest any = rest any

few_rows : (rows : List Row) → AreLow rows → AreOnce rows → length rows ≤ MOST_ROWS
few_rows rows low once =
    let few = length-le_from_distinct_below (map number_of rows) MOST_ROWS (numbers_distinct rows low once) (numbers_low rows low) in
    let same : length (map number_of rows) ≡ length rows = length-map rows number_of in omega (arith, few, same)

module _ {S L P O R : Type 0} (F : Layouts S L P O R) (declared : List L) (id : ℕ) (v : PassView P O R) where
  pub finds_few : Finds F declared 0 HoldsFew id v
  finds_few table r at =
      let knows = known F declared table r id v at in
      few_rows v.rows
      (λ place row e.
      let old = knows.phases.rows.old place row e in
      record {
        object = (let there = old_there r.state.phases r.sound.phases row old in let few = r.shows.few_objects in omega (arith, there, few));
        incarnation = old_small r.state.phases r.sound.phases row old;
      })
      knows.names.once
