-- Cells that a list names, and what becomes of others.
use Rattle.std.proofs.Common.{◌≡◌, ◌≢◌, ℕ, ◌+◌, Bool, true, false, not, List, [], ◌∷◌, ◌++◌, length, refl, sym, ◌∙◌, subst, arith}
use Rattle.std.specs.Prelude.{All}
use Rattle.std.specs.List.{list_all}
use Rattle.std.proofs.lemmas.Bool.{and_parts, not-true}
use Rattle.std.proofs.lemmas.Bool.Decides.{nat_tests}
use Rattle.std.proofs.lemmas.List.{get_or-set_other, length-append, get_or-append-add}
use Rattle.std.proofs.lemmas.List.Elements.{All-append}
use Rattle.std.proofs.Math.ListN.{get_or-append}
use Rattle.k42_kinds.specs.declared.entry.Entry.{Entry}
use Rattle.turn_core.specs.Events.{has_taken, has_beginning, may_begin, can_hand}
use Rattle.turn_core.specs.Plain.{Cell, Turns}
use Rattle.turn_core.specs.State.{cell_at, fresh_cell, change_cell}
use Rattle.turn_core.specs.Names.{names, names_once}

-- a cell that is not named first, and not named further
pub first_not : (n m : ℕ) (cells : List ℕ) → names (n ∷ cells) m ≡ false → m ≢ n
first_not n m cells unnamed = grind (arith, nat_tests)

pub further_not : (n m : ℕ) (cells : List ℕ) → names (n ∷ cells) m ≡ false → names cells m ≡ false
further_not n m cells unnamed = grind (arith, nat_tests)

pub cell_at-change_else : {O R : Type 0} (changed : Cell O R → Cell O R) (s : Turns O R) (n m : ℕ) → m ≢ n → cell_at (change_cell changed s n) m ≡ cell_at s m
cell_at-change_else changed s n m apart = get_or-set_other s.cells n m (changed (cell_at s n)) (fresh_cell 0) apart

-- a test of each named cell comes out the same after something became of another
pub each_else : {O R : Type 0} (test : Cell O R → Bool) (changed : Cell O R → Cell O R) (s : Turns O R) (n : ℕ) (cells : List ℕ) → names cells n ≡ false → list_all (λ m. test (cell_at (change_cell changed s n) m)) cells ≡ list_all (λ m. test (cell_at s m)) cells
each_else test changed s n [] unnamed = refl
each_else test changed s n (m ∷ cells) unnamed =
    let apart : m ≢ n = λ same. first_not m n cells unnamed (sym same) in
    rw (cell_at-change_else changed s n m apart, each_else test changed s n cells (further_not m n cells unnamed)) refl

-- what is asked of the further cells, once something became of the first
pub rest_tested : {O R : Type 0} (test : Cell O R → Bool) (changed : Cell O R → Cell O R) (s : Turns O R) (n : ℕ) (cells : List ℕ) → names_once (n ∷ cells) ≡ true → list_all (λ m. test (cell_at s m)) (n ∷ cells) ≡ true → list_all (λ m. test (cell_at (change_cell changed s n) m)) cells ≡ true
rest_tested test changed s n cells once tested =
    let unnamed : names cells n ≡ false = not-true (names cells n) (and_parts (not (names cells n)) (names_once cells) once).0 in
    each_else test changed s n cells unnamed ∙ (and_parts (test (cell_at s n)) (list_all (λ m. test (cell_at s m)) cells) tested).1

pub rest_once : (n : ℕ) (cells : List ℕ) → names_once (n ∷ cells) ≡ true → names_once cells ≡ true
rest_once n cells once = (and_parts (not (names cells n)) (names_once cells) once).1

pub once_right : (cells others : List ℕ) → names_once (cells ++ others) ≡ true → names_once others ≡ true
once_right [] others once = once
once_right (n ∷ cells) others once = once_right cells others (rest_once n (cells ++ others) once)

pub all_left : (P : ℕ → Type 0) (xs ys : List ℕ) → All P (xs ++ ys) → All P xs
all_left P xs ys all k d within = rw (← (get_or-append xs ys d k within)) (all k d (omega (arith, within, length-append xs ys)))

pub all_right : (P : ℕ → Type 0) (xs ys : List ℕ) → All P (xs ++ ys) → All P ys
all_right P xs ys all k d within = rw (← (get_or-append-add xs ys k d)) (all (length xs + k) d (omega (arith, within, length-append xs ys)))

each_may_begin : {O R : Type 0} (s : Turns O R) (c : ℕ) (cells : List ℕ) → list_all (has_beginning s c) cells ≡ true → list_all (λ n. may_begin (cell_at s n)) cells ≡ true
each_may_begin s c [] all = refl
each_may_begin s c (n ∷ cells) all =
    let parts = and_parts (has_beginning s c n) (list_all (has_beginning s c) cells) all in
    let here = (and_parts (has_taken s c n) (may_begin (cell_at s n)) parts.0).1 in
    rw (here, each_may_begin s c cells parts.1) refl

-- what a hand that is possible says of the cells where lives begin
pub hand_begins : {O R : Type 0} (s : Turns O R) (c : ℕ) (from onto : List ℕ) (entry : Entry O R) → can_hand s c from onto entry ≡ true → list_all (λ n. may_begin (cell_at s n)) onto ≡ true
hand_begins s c from onto entry can = each_may_begin s c onto (grind (arith, can))

pub hand_once : {O R : Type 0} (s : Turns O R) (c : ℕ) (from onto : List ℕ) (entry : Entry O R) → can_hand s c from onto entry ≡ true → names_once onto ≡ true
hand_once s c from onto entry can = once_right from onto (grind (arith, can))

pub all_both : (P : ℕ → Type 0) (xs ys zs : List ℕ) → zs ≡ xs ++ ys → All P xs → All P ys → All P zs
all_both P xs ys zs is left right = subst (All P) (sym is) (All-append P xs ys left right)
