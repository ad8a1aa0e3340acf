-- What becomes of each cell where something becomes of those that are named.
use Rattle.std.proofs.Common.{◌≡◌, ◌≢◌, ℕ, ◌<◌, Bool, true, false, not, ◌||◌, eqb, List, [], ◌∷◌, length, length-set, refl, sym, ap, ◌∙◌, subst}
use Rattle.std.proofs.lemmas.Bool.{and_parts, not-true, eqb-true, eq-eqb}
use Rattle.std.proofs.lemmas.List.{get_or-set_same}
use Rattle.turn_core.specs.Plain.{Cell, Turns}
use Rattle.turn_core.specs.State.{cell_at, fresh_cell, change_cell, change_cells}
use Rattle.turn_core.specs.Names.{names, names_once}
use Rattle.turn_core.proofs.Named.{first_not, further_not, cell_at-change_else, rest_once}

module _ {O R : Type 0} (changed : Cell O R → Cell O R) where
  pub cell_at-else : (t : Turns O R) (cells : List ℕ) (m : ℕ) → names cells m ≡ false
      → cell_at (change_cells changed t cells) m ≡ cell_at t m
  cell_at-else t [] m unnamed = refl
  cell_at-else t (n ∷ cells) m unnamed =
      cell_at-else (change_cell changed t n) cells m (further_not n m cells unnamed)
      ∙ cell_at-change_else changed t n m (first_not n m cells unnamed)

  pub cell_at-here : (t : Turns O R) (n : ℕ) → n < length t.cells → cell_at (change_cell changed t n) n ≡ changed (cell_at t n)
  cell_at-here t n there = get_or-set_same t.cells n (changed (cell_at t n)) (fresh_cell 0) there

  once_not : (n : ℕ) (cells : List ℕ) → names_once (n ∷ cells) ≡ true → names cells n ≡ false
  once_not n cells once = not-true (names cells n) (and_parts (not (names cells n)) (names_once cells) once).0

  -- a cell that is named once, and is there, is changed
  pub cell_at-named : (t : Turns O R) (cells : List ℕ) (m : ℕ) → names_once cells ≡ true → m < length t.cells → names cells m ≡ true
      → cell_at (change_cells changed t cells) m ≡ changed (cell_at t m)
  cell_at-named t [] m once there named = absurd (cc)
  cell_at-named t (n ∷ cells) m once there named =
      by_test (eqb n m) refl named
      (λ named'. cell_at-named (change_cell changed t n) cells m (rest_once n cells once) (rw (length-set t.cells n (changed (cell_at t n))) there) named')
    where
      by_test : (b : Bool) → eqb n m ≡ b → b || names cells m ≡ true
          → (names cells m ≡ true → cell_at (change_cells changed (change_cell changed t n) cells) m ≡ changed (cell_at (change_cell changed t n) m))
          → cell_at (change_cells changed (change_cell changed t n) cells) m ≡ changed (cell_at t m)
      by_test true e further rest =
          let same = eqb-true n m e in
          let unnamed : names cells m ≡ false = subst (λ k. names cells k ≡ false) same (once_not n cells once) in
          cell_at-else (change_cell changed t n) cells m unnamed
          ∙ subst (λ k. cell_at (change_cell changed t k) m ≡ changed (cell_at t m)) (sym same) (cell_at-here t m there)
      by_test false e further rest =
          let apart : m ≢ n = λ same. let is = eq-eqb n m (sym same) in absurd (cc) in
          rest further ∙ ap changed (cell_at-change_else changed t n m apart)
