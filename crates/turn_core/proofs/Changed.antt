-- What stands at a place after something became of each of some cells.
use Rattle.std.proofs.Common.{◌≡◌, ◌≢◌, ℕ, ◌<◌, true, false, not, cond, eqb, List, [], ◌∷◌, length, refl, sym, ap, ◌∙◌, subst, inl, inr, arith}
use Rattle.std.specs.Prelude.{Some, slice_get}
use Rattle.std.proofs.lemmas.Bool.Decides.{nat_tests}
use Rattle.std.proofs.lemmas.Bool.{and_parts, not-true}
use Rattle.std.proofs.lemmas.List.{length-set}
use Rattle.std.proofs.lemmas.Option.{slice_get_within, slice_get-get_or}
use Rattle.k42_places.proofs.Written.{at_set}
use Rattle.turn_core.specs.Plain.{Cell, Turns}
use Rattle.turn_core.specs.State.{cell_at, fresh_cell, change_cell, change_cells}
use Rattle.turn_core.specs.Names.{names, names_once}
use Rattle.turn_core.proofs.Named.{rest_once}

pub length-change_cells : {O R : Type 0} (changed : Cell O R → Cell O R) (s : Turns O R) (cells : List ℕ) → length (change_cells changed s cells).cells ≡ length s.cells
length-change_cells changed s [] = refl
length-change_cells changed s (n ∷ cells) = length-change_cells changed (change_cell changed s n) cells ∙ length-set s.cells n (changed (cell_at s n))

pub callers-change_cells : {O R : Type 0} (changed : Cell O R → Cell O R) (s : Turns O R) (cells : List ℕ) → (change_cells changed s cells).callers ≡ s.callers
callers-change_cells changed s [] = refl
callers-change_cells changed s (n ∷ cells) = callers-change_cells changed (change_cell changed s n) cells

-- the cell was there, and was changed if it was named
pub record Was {O R : Type 0} (changed : Cell O R → Cell O R) (s : Turns O R) (cells : List ℕ) (n : ℕ) (y : Cell O R) : Type 0 where
  pub before : Cell O R
  pub there : slice_get s.cells n ≡ Some before
  pub becomes : y ≡ cond (names cells n) (changed before) before

names_first : (m : ℕ) (cells : List ℕ) → names (m ∷ cells) m ≡ true
names_first m cells = grind (arith, nat_tests)

names_further : (m n : ℕ) (cells : List ℕ) → n ≢ m → names (m ∷ cells) n ≡ names cells n
names_further m n cells apart = rw (not_same m n apart) refl where
  not_same : (m n : ℕ) → n ≢ m → eqb m n ≡ false
  not_same m n apart = grind (arith, nat_tests)

once_not : (m : ℕ) (cells : List ℕ) → names_once (m ∷ cells) ≡ true → names cells m ≡ false
once_not m cells once = not-true (names cells m) (and_parts (not (names cells m)) (names_once cells) once).0

pub at_changed : {O R : Type 0} (changed : Cell O R → Cell O R) (s : Turns O R) (cells : List ℕ) (n : ℕ) (y : Cell O R) → names_once cells ≡ true → slice_get (change_cells changed s cells).cells n ≡ Some y → Was changed s cells n y
at_changed changed s [] n y once e = record { before = y; there = e; becomes = refl }
at_changed changed s (m ∷ cells) n y once e =
    let was = at_changed changed (change_cell changed s m) cells n y (rest_once m cells once) e in
    elim (at_set s.cells m n (changed (cell_at s m)) was.before was.there) [
      | inl here ↦
          let unnamed : names cells n ≡ false = rw here.0 (once_not m cells once) in
          let within : n < length s.cells = omega (arith, slice_get_within (change_cell changed s m).cells n was.before was.there, length-set s.cells m (changed (cell_at s m))) in
          let named : names (m ∷ cells) n ≡ true = subst (λ k. names (m ∷ cells) k ≡ true) (sym here.0) (names_first m cells) in
          let same : y ≡ was.before = was.becomes ∙ ap (λ b. cond b (changed was.before) was.before) unnamed in
          record {
            before = cell_at s n;
            there = slice_get-get_or s.cells n (fresh_cell 0) within;
            becomes = same ∙ sym here.1 ∙ ap (λ k. changed (cell_at s k)) (sym here.0) ∙ ap (λ b. cond b (changed (cell_at s n)) (cell_at s n)) (sym named);
          }
      | inr apart ↦ record {
        before = was.before;
        there = apart.1;
        becomes = was.becomes ∙ ap (λ b. cond b (changed was.before) was.before) (sym (names_further m n cells apart.0));
      }
    ]
