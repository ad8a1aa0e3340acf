-- A step that is given back leaves the state as it was.
use Rattle.std.proofs.Common.{◌≡◌, ℕ, suc, Bool, true, false, ◌+◌, ◌-◌, ◌<◌, List, [], ◌∷◌, ◌++◌, length, take, set, get_or, refl, sym, ap, ◌∙◌, subst, arith}
use Rattle.std.specs.Prelude.{All}
use Rattle.std.proofs.lemmas.List.{get_or-set_same, set-set, set-get_or, length-append, length-set}
use Rattle.std.proofs.Math.Seq.{take-append_seam, get_or-append_seam}
use Rattle.k42_kinds.specs.declared.entry.Entry.{Entry}
use Rattle.turn_core.specs.Plain.{Cell, Caller, Turns}
use Rattle.turn_core.specs.State.{cell_at, caller_at, clock_of, fresh_cell, fresh_caller, put_cell, change_cell, change_caller}
use Rattle.turn_core.specs.Events.{cell_told, cell_opened, cell_begun, caller_drawn}
use Rattle.turn_core.specs.Undoing.{cell_untold, cell_reclosed, cell_unbegun, caller_undrawn}

-- two steps of one cell are one
twice : {O R : Type 0} (made further : Cell O R → Cell O R) (s : Turns O R) (n : ℕ) → n < length s.cells → change_cell further (change_cell made s n) n ≡ put_cell s n (further (made (cell_at s n)))
twice made further s n there =
    ap (λ cells. record s { cells = cells }) (rw (get_or-set_same s.cells n (made (cell_at s n)) (fresh_cell 0) there) (set-set s.cells n (made (cell_at s n)) (further (made (cell_at s n)))))

-- the second step takes back what the first made of the cell
undone : {O R : Type 0} (made given : Cell O R → Cell O R) (s : Turns O R) (n : ℕ) → n < length s.cells → given (made (cell_at s n)) ≡ cell_at s n → change_cell given (change_cell made s n) n ≡ s
undone made given s n there back =
    twice made given s n there ∙ ap (λ cells. record s { cells = cells }) (ap (set s.cells n) back ∙ set-get_or s.cells n (fresh_cell 0))

without_last : {A : Type 0} (xs : List A) (x : A) → take (length (xs ++ x ∷ []) - 1) (xs ++ x ∷ []) ≡ xs
without_last xs x = ap (λ n. take n (xs ++ x ∷ [])) (omega (arith, length-append xs (x ∷ []))) ∙ take-append_seam xs (x ∷ [])

untold_again : {O R : Type 0} (entry : Entry O R) (x : Cell O R) → cell_untold (cell_told entry x) ≡ x
untold_again entry x = ap (λ history. record x { history = history }) (without_last x.history entry)

pub untold : {O R : Type 0} (entry : Entry O R) (s : Turns O R) (n : ℕ) → n < length s.cells → change_cell cell_untold (change_cell (cell_told entry) s n) n ≡ s
untold entry s n there = undone (cell_told entry) cell_untold s n there (untold_again entry (cell_at s n))

-- the further cells that are named are there still, once something became of the first
pub rest_there : {O R : Type 0} (changed : Cell O R → Cell O R) (old new : Turns O R) (cells rest : List ℕ) (first : ℕ) → cells ≡ first ∷ rest → new ≡ change_cell changed old first → All (λ n. n < length old.cells) cells → All (λ n. n < length new.cells) rest
rest_there {O} {R} changed old new cells rest first is becomes there k d within =
    let there_then : get_or rest k d < length old.cells = subst (λ xs. All (λ n. n < length old.cells) xs) is there (suc k) d (omega (arith, within)) in
    let same : length new.cells ≡ length old.cells = ap (λ (s : Turns O R). length s.cells) becomes ∙ length-set old.cells first (changed (cell_at old first)) in
    omega (arith, there_then, same)

last_of_appended : {A : Type 0} (xs : List A) (x d : A) → get_or (xs ++ x ∷ []) (length (xs ++ x ∷ []) - 1) d ≡ x
last_of_appended xs x d = ap (λ n. get_or (xs ++ x ∷ []) n d) (omega (arith, length-append xs (x ∷ []))) ∙ get_or-append_seam xs x [] d

closed_again : {O R : Type 0} (x : Cell O R) → x.closed ≡ true → cell_reclosed (cell_opened x) ≡ x
closed_again x closed =
    let life : x.life + 2 - 2 ≡ x.life = omega arith in
    rw (last_of_appended x.past x.history [], without_last x.past x.history, life) (ap (λ closed. record x { closed = closed }) (sym closed))

pub reclosed : {O R : Type 0} (s : Turns O R) (n : ℕ) → n < length s.cells → (cell_at s n).closed ≡ true → change_cell cell_reclosed (change_cell cell_opened s n) n ≡ s
reclosed s n there closed = undone cell_opened cell_reclosed s n there (closed_again (cell_at s n) closed)

-- a closed cell that was opened and told has begun
pub begun : {O R : Type 0} (entry : Entry O R) (s : Turns O R) (n : ℕ) → n < length s.cells → (cell_at s n).closed ≡ true → change_cell (cell_told entry) (change_cell cell_opened s n) n ≡ change_cell (cell_begun entry) s n
begun entry s n there closed = twice cell_opened (cell_told entry) s n there ∙ ap (put_cell s n) (rw closed refl)

pub unbegun : {O R : Type 0} (entry : Entry O R) (s : Turns O R) (n : ℕ) (was_closed : Bool) → n < length s.cells → (cell_at s n).closed ≡ was_closed → change_cell (cell_unbegun was_closed) (change_cell (cell_begun entry) s n) n ≡ s
unbegun {O} {R} entry s n true there closed = undone (cell_begun entry) cell_reclosed s n there (ap cell_reclosed (told_again (cell_at s n) closed) ∙ closed_again (cell_at s n) closed) where
  told_again : (x : Cell O R) → x.closed ≡ true → cell_begun entry x ≡ cell_told entry (cell_opened x)
  told_again x closed = rw closed refl
unbegun {O} {R} entry s n false there closed = undone (cell_begun entry) cell_untold s n there (ap cell_untold (told_again (cell_at s n) closed) ∙ untold_again entry (cell_at s n)) where
  told_again : (x : Cell O R) → x.closed ≡ false → cell_begun entry x ≡ cell_told entry x
  told_again x closed = rw closed refl

pub undrawn : {O R : Type 0} (entry : Entry O R) (s : Turns O R) (c : ℕ) → c < length s.callers → change_caller (caller_undrawn (clock_of s c)) (change_caller (caller_drawn entry) s c) c ≡ s
undrawn {O} {R} entry s c there =
    ap (λ callers. record s { callers = callers }) (rw (get_or-set_same s.callers c (caller_drawn entry (caller_at s c)) fresh_caller there) (set-set s.callers c (caller_drawn entry (caller_at s c)) (caller_undrawn (clock_of s c) (caller_drawn entry (caller_at s c))) ∙ ap (set s.callers c) (undrawn_again (caller_at s c)) ∙ set-get_or s.callers c fresh_caller)) where
      undrawn_again : (x : Caller O R) → caller_undrawn x.clock (caller_drawn entry x) ≡ x
      undrawn_again x = ap (λ mine. record x { mine = mine }) (without_last x.mine entry)
