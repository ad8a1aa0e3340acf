-- The cells of a row, and its parts one by one.
use Rattle.std.proofs.Common.{◌≡◌, ◌≢◌, ◌⊎◌, ℕ, zero, suc, ◌+◌, ◌/◌, ◌%◌, ◌<◌, ◌≤◌, Bool, true, false, not, List, [], ◌∷◌, Option, Some, None, length, sym, refl, ap, ◌∙◌, inl, inr, arith}
use Rattle.std.specs.List.{slice_get}
use Rattle.std.specs.Prelude.{unwrap_or}
use Rattle.std.proofs.lemmas.Option.{same_Some}
use mathlib.Core.Logic.{dite}
use native.Mathlib.Decide.{ℕ_discrete}
use Rattle.k42_kinds.specs.Rows.{Ways, made_from, part_at, changed_at}
use Rattle.turn_core.specs.Names.{names, names_once}
use Rattle.turn_core.specs.Events.{names_some}
use Rattle.k42_joined.specs.Numbers.{cell_of, object_of, place_of, row_cells}
use Rattle.k42_joined.proofs.CellNumbers.{among, place_of-cell}
use Rattle.k42_board.specs.Drawing.{numbers_of}
use Rattle.k42_board.specs.Parts.{HasDue}
use Rattle.k42_board.specs.declared.cell.Content.{Content}

-- each cell of a row is named once
once_from : (o i first many : ℕ) → first + many ≤ 8 → names_once (made_from (cell_of o i) first many) ≡ true
once_from o i first zero few = refl
once_from o i first (suc many) few =
    let new : names (made_from (cell_of o i) (suc first) many) (cell_of o i first) ≡ false = go (names (made_from (cell_of o i) (suc first) many) (cell_of o i first)) refl in
    let rest = once_from o i (suc first) many (omega (arith, few)) in
    rw (new, rest) refl
  where
    go : (b : Bool) → names (made_from (cell_of o i) (suc first) many) (cell_of o i first) ≡ b → b ≡ false
    go false e = refl
    go true e = let is = among o i (suc first) many (cell_of o i first) e in let low = is.low in let same = is.same in absurd (omega (arith, low, same))

pub row_once : (procs o i : ℕ) → procs ≤ 8 → names_once (row_cells procs o i) ≡ true
row_once procs o i few = once_from o i 0 procs (omega (arith, few))

pub row_some : (procs o i : ℕ) → 0 < procs → names_some (row_cells procs o i) ≡ true
row_some zero o i lt = absurd (omega (arith, lt))
row_some (suc procs) o i lt = refl

made_at : {A : Type 0} (f : ℕ → A) (first many k : ℕ) (a : A) → slice_get (made_from f first many) k ≡ Some a → (a ≡ f (first + k)) × (k < many)
made_at f first zero k a e = absurd (cc)
made_at f first (suc many) zero a e = (sym (same_Some (f first) a e) ∙ ap f (omega arith), omega arith)
made_at f first (suc many) (suc k) a e =
    let rest = made_at f (suc first) many k a e in let lt = rest.1 in (rest.0 ∙ ap f (omega arith), omega (arith, lt))

number_at : {P O R : Type 0} (contents : List (Content P O R)) (k : ℕ) (content : Content P O R) → slice_get contents k ≡ Some content → slice_get (numbers_of contents) k ≡ Some content.number
number_at [] k content e = absurd (cc)
number_at {O} {R} (first ∷ contents) zero content e = ap (λ (x : Content _ O R). Some x.number) (same_Some first content e)
number_at (first ∷ contents) (suc k) content e = number_at contents k content e

-- the cell that stands at a place of a row's cells has that place
pub place_in_row : {P O R : Type 0} (contents : List (Content P O R)) (procs o i : ℕ) → numbers_of contents ≡ row_cells procs o i → procs ≤ 8 → (k : ℕ) (content : Content P O R)
    → slice_get contents k ≡ Some content → (content.number ≡ cell_of o i k) × (k < procs) × (place_of content.number ≡ k)
place_in_row contents procs o i are few k content e =
    let at = made_at (cell_of o i) 0 procs k content.number (ap (λ xs. slice_get xs k) (sym are) ∙ number_at contents k content e) in
    let lt = at.1 in
    let same : content.number ≡ cell_of o i k = at.0 ∙ ap (cell_of o i) (omega arith) in
    (same, lt, ap place_of same ∙ place_of-cell o i k (omega (arith, lt, few)))

-- the cells of an object are of the row of one parity or the other
pub of_parity : (n o i : ℕ) → object_of n ≡ o → (n ≡ cell_of o i (place_of n)) ⊎ (n ≡ cell_of o (i + 1) (place_of n))
of_parity n o i object = dite (ℕ_discrete (n / 8 % 2) (i % 2)) (λ same. inl (omega (arith, object, same))) (λ apart. inr (omega (arith, object, apart)))

-- parts, one by one

pub some_part : {P : Type 0} (parts : List P) (p : ℕ) → p < length parts → (d : P) × (part_at parts p ≡ Some d)
some_part [] p lt = absurd (omega (arith, lt))
some_part (part ∷ parts) zero lt = (part, refl)
some_part (part ∷ parts) (suc p) lt = some_part parts p (omega (arith, lt))

pub no_part : {P : Type 0} (parts : List P) (p : ℕ) → length parts ≤ p → part_at parts p ≡ None
no_part [] p lt = refl
no_part (part ∷ parts) zero lt = absurd (omega (arith, lt))
no_part (part ∷ parts) (suc p) lt = no_part parts p (omega (arith, lt))

pub changed_here : {P : Type 0} (f : P → P) (parts : List P) (p : ℕ) (d : P) → part_at parts p ≡ Some d → part_at (changed_at f parts p) p ≡ Some (f d)
changed_here f [] p d e = absurd (cc)
changed_here f (part ∷ parts) zero d e = ap (λ x. Some (f x)) (same_Some part d e)
changed_here f (part ∷ parts) (suc p) d e = changed_here f parts p d e

pub changed_else : {P : Type 0} (f : P → P) (parts : List P) (p q : ℕ) → q ≢ p → part_at (changed_at f parts p) q ≡ part_at parts q
changed_else f [] p q not = refl
changed_else f (part ∷ parts) zero zero not = absurd (not refl)
changed_else f (part ∷ parts) zero (suc q) not = refl
changed_else f (part ∷ parts) (suc p) zero not = refl
changed_else f (part ∷ parts) (suc p) (suc q) not = changed_else f parts p q (λ e. not (ap suc e))

-- what is made part by part
made_is : {P : Type 0} (f : ℕ → P) (first many : ℕ) (parts : List P) → length parts ≡ many → ((p : ℕ) (d : P) → part_at parts p ≡ Some d → f (first + p) ≡ d) → made_from f first many ≡ parts
made_is f first zero [] long each = refl
made_is f first zero (part ∷ parts) long each = absurd (omega (arith, long))
made_is f first (suc many) [] long each = absurd (omega (arith, long))
made_is f first (suc many) (part ∷ parts) long each =
    let head : f first ≡ part = ap f (omega arith) ∙ each 0 part refl in
    let tail : made_from f (suc first) many ≡ parts = made_is f (suc first) many parts (omega (arith, long)) (λ p d e. ap f (omega arith) ∙ each (suc p) d e) in
    λ j. head j ∷ tail j

pub made_row : {P : Type 0} (f : ℕ → P) (many : ℕ) (parts : List P) → length parts ≡ many → ((p : ℕ) (d : P) → part_at parts p ≡ Some d → f p ≡ d) → made_from f 0 many ≡ parts
made_row f many parts long each = made_is f 0 many parts long (λ p d e. ap f (omega arith) ∙ each p d e)

pub part_within : {P : Type 0} (parts : List P) (p : ℕ) (d : P) → part_at parts p ≡ Some d → p < length parts
part_within [] p d e = absurd (cc)
part_within (part ∷ parts) zero d e = omega arith
part_within (part ∷ parts) (suc p) d e = let rest = part_within parts p d e in omega (arith, rest)

-- what is due

pub due_self : {S P O R : Type 0} (ways : Ways S P O R) (procs place : ℕ) (part : Option P) → HasDue ways procs place part part
due_self ways procs place None = tt
due_self ways procs place (Some part) = refl

pub due_value : {S P O R : Type 0} (ways : Ways S P O R) (procs place : ℕ) (own : Option P) (d : P) → HasDue ways procs place own (Some d) → unwrap_or own (ways.empty procs place) ≡ d
due_value ways procs place None d due = sym due
due_value ways procs place (Some own) d due = due

pub due_none : {S P O R : Type 0} (ways : Ways S P O R) (procs place : ℕ) (own : Option P) → HasDue ways procs place own None → own ≡ None
due_none ways procs place None due = refl
due_none ways procs place (Some own) due = absurd due
