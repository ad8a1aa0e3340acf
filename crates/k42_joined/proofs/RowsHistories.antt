-- The histories of cells by their rows, before and after a step.
use Rattle.std.proofs.Common.{◌≡◌, ◌≢◌, ℕ, ◌+◌, ◌/◌, ◌<◌, ◌≤◌, Bool, true, false, not, ◌||◌, cond, eqb, List, [], ◌∷◌, ◌++◌, length, get_or, refl, sym, ap, ◌∙◌, subst, arith}
use Rattle.std.proofs.lemmas.Bool.{eq-eqb, eqb-true, ne_eqb}
use Rattle.std.proofs.lemmas.Bool.Decides.{nat_tests}
use Rattle.std.proofs.lemmas.List.{get_or_append_left, get_or_push, length-append}
use Rattle.k42_kinds.specs.Rows.{IsWithin}
use Rattle.k42_kinds.specs.declared.entry.Entry.{Entry}
use Rattle.k42_kinds.specs.declared.entry.Reach.{Reach}
use Rattle.k42_kinds.specs.declared.entry.Reach.TheVariants.{One, All}
use Rattle.turn_core.specs.Events.{cell_told, cell_opened, cell_begun}
use Rattle.turn_core.specs.Names.{names}
use Rattle.turn_core.specs.Plain.{Cell}
use Rattle.turn_core.specs.Sound.{histories_of}
use Rattle.k42_stamp.specs.Chains.{Turn, Chain}
use Rattle.k42_stamp.specs.Fits.{PastLeaves, Fits}
use Rattle.k42_stamp.specs.Layouts.{Layouts}
use Rattle.k42_stamp.specs.Parts.{touches}
use Rattle.k42_joined.specs.Numbers.{cell_of}
use Rattle.k42_joined.specs.Rows.{cells_reached}
use Rattle.k42_joined.proofs.CellNumbers.{IsAmong, same_cell, named_in_row, row_names}
use Rattle.k42_joined.proofs.LocksLives.{IsWaiting, waiting, cell_begins}
use Rattle.k42_joined.specs.Locks.{AreOfLives}

-- histories that are the same at the rows that there are
module _ {S L P O R : Type 0} (F : Layouts S L P O R) (old new : ℕ → ℕ → List (Entry O R)) where
  past_left : (past : List (Turn L P O R)) → ((row cell : ℕ) → row < length past → cell < F.procs → new row cell ≡ old row cell)
      → PastLeaves F old past → PastLeaves F new past
  past_left [] same left = tt
  past_left (turn ∷ past) same left = (
    (λ cell lt. same (length past) cell (omega arith) lt ∙ left.0 cell lt),
    past_left past (λ row cell less lt. same row cell (omega arith) lt) left.1,
  )

  pub fits_same : (declared : L) (o : ℕ) (chain : Chain L P O R)
      → ((row cell : ℕ) → row ≤ length chain.past → cell < F.procs → new row cell ≡ old row cell)
      → Fits F declared o old chain → Fits F declared o new chain
  fits_same declared o chain same fits = record {
    declared_live = fits.declared_live;
    past = fits.past;
    row = fits.row;
    past_left = past_left chain.past (λ row cell less lt. same row cell (omega (arith, less)) lt) fits.past_left;
    left = λ cell lt. same (length chain.past) cell (omega arith) lt ∙ fits.left cell lt;
  }

-- the history of a cell in one of its lives
abbrev pub at_life : {O R : Type 0} → Cell O R → ℕ → List (Entry O R)
at_life x k = get_or (histories_of x) k []

pub at_present_life : {O R : Type 0} (x : Cell O R) (k : ℕ) → length x.past ≡ k → at_life x k ≡ x.history
at_present_life x k long = get_or_push x.past x.history [] k long

pub at_past_life : {O R : Type 0} (x y : Cell O R) (k : ℕ) → y.past ≡ x.past → k < length x.past → at_life y k ≡ at_life x k
at_past_life x y k same less =
    get_or_append_left y.past (y.history ∷ []) [] k (rw same less)
    ∙ (ap (λ past. get_or past k []) same ∙ sym (get_or_append_left x.past (x.history ∷ []) [] k less))

-- a cell that was told of an entry, or was left
pub told_present : {O R : Type 0} (e : Entry O R) (x : Cell O R) (k : ℕ) (b : Bool) → length x.past ≡ k
    → at_life (cond b (cell_told e x) x) k ≡ cond b (at_life x k ++ e ∷ []) (at_life x k)
told_present e x k true long =
    at_present_life (cell_told e x) k long ∙ ap (λ history. history ++ e ∷ []) (sym (at_present_life x k long))
told_present e x k false long = refl

pub told_past : {O R : Type 0} (e : Entry O R) (x : Cell O R) (k : ℕ) (b : Bool) → k < length x.past → at_life (cond b (cell_told e x) x) k ≡ at_life x k
told_past e x k true less = at_past_life x (cell_told e x) k refl less
told_past e x k false less = refl

-- a cell whose next life was begun has its former histories
begun_past_as : {O R : Type 0} (i : ℕ) (y : Cell O R) (e : Entry O R) (closed : Bool) (k : ℕ) → IsWaiting i y closed → k < (i + 1) / 2
    → at_life (cond closed (cell_told e (cell_opened y)) (cell_told e y)) k ≡ at_life y k
begun_past_as i y e true k is less =
    let past = is.past in
    get_or_append_left (y.past ++ y.history ∷ []) ((e ∷ []) ∷ []) [] k
    (let long = length-append y.past (y.history ∷ []) in omega (arith, less, past, long))
begun_past_as i y e false k is less =
    let past = is.past in at_past_life y (cell_told e y) k refl (omega (arith, less, past))

pub begun_past : {O R : Type 0} (i : ℕ) (x y : Cell O R) (e : Entry O R) (k : ℕ) → AreOfLives i false x y → k < (i + 1) / 2
    → at_life (cell_begun e y) k ≡ at_life y k
begun_past i x y e k are less =
    let is = waiting i x y are in
    subst (λ b. at_life (cond b (cell_told e (cell_opened y)) (cell_told e y)) k ≡ at_life y k) (sym is.closed_is)
    (begun_past_as i y e (not (eqb i 0)) k is less)

pub begun_present : {O R : Type 0} (i : ℕ) (x y : Cell O R) (e : Entry O R) → AreOfLives i false x y → at_life (cell_begun e y) ((i + 1) / 2) ≡ e ∷ []
begun_present i x y e are =
    let begun = cell_begins i x y e are in at_present_life (cell_begun e y) ((i + 1) / 2) begun.past ∙ begun.history

-- which cells of a row are named by what an entry needs
pub names_reached : (procs o i p : ℕ) (r : Reach) → procs ≤ 8 → p < procs → IsWithin procs r
    → names (cells_reached procs o i r) (cell_of o i p) ≡ touches r p
names_reached procs o i p (One q) few lt within = by_test (eqb q p) refl where
  by_test : (b : Bool) → eqb q p ≡ b → eqb (cell_of o i q) (cell_of o i p) || false ≡ b
  by_test true e = let same : q ≡ p = eqb-true q p e in rw (eq-eqb (cell_of o i q) (cell_of o i p) (ap (cell_of o i) same)) refl
  by_test false e =
      let apart : cell_of o i q ≢ cell_of o i p = λ same.
      let one = same_cell o i q o i p (omega (arith, within, few)) (omega (arith, lt, few)) same in
      let is = eq-eqb q p one.place in absurd (cc) in
      rw (ne_eqb (cell_of o i q) (cell_of o i p) apart) refl
names_reached procs o i p All few lt within = row_names procs o i p lt

pub reached_in_row : (procs o i n : ℕ) (r : Reach) → IsWithin procs r → names (cells_reached procs o i r) n ≡ true → IsAmong o i 0 procs n
reached_in_row procs o i n (One q) within named =
    let same : cell_of o i q ≡ n = grind (arith, nat_tests, named) in
    record { place = q; low = omega arith; high = omega (arith, within); same = sym same }
reached_in_row procs o i n All within named = named_in_row procs o i n named
