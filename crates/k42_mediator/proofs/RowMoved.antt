-- The cells of two rows, between which a pass moves the state.
use Rattle.std.proofs.Common.{◌≡◌, ⊎_elim, ℕ, zero, suc, ◌+◌, ◌<◌, ◌≤◌, List, [], ◌∷◌, Some, None, length, take, drop, refl, sym, ap, ◌∙◌, subst, arith}
use Rattle.std.specs.List.{slice_get}
use Rattle.std.specs.Option.{unwrap_or}
use Rattle.std.proofs.lemmas.Option.{same_Some}
use Rattle.k42_kinds.specs.Rows.{Ways, made_from}
use Rattle.k42_joined.specs.Numbers.{cell_of}
use Rattle.k42_board.specs.Drawing.{IsHeld, AreHeld, HaveParts, numbers_of, part_noted, part_due}
use Rattle.k42_board.specs.declared.cell.Content.{Content}
use Rattle.k42_board.specs.declared.view.PassView.{PassView}
use Rattle.k42_mediator.specs.Parts.{parts_from, IsKept, AreKept, filled}
use Rattle.k42_mediator.specs.Taken.{AreTaken}

-- lists

pub length_made : {A : Type 0} (f : ℕ → A) (first many : ℕ) → length (made_from f first many) ≡ many
length_made f first zero = refl
length_made f first (suc many) = ap suc (length_made f (suc first) many)

pub take_made : {A : Type 0} (f : ℕ → A) (first many k : ℕ) → k ≤ many → take k (made_from f first many) ≡ made_from f first k
take_made f first many zero le = refl
take_made f first zero (suc k) le = absurd (omega (arith, le))
take_made f first (suc many) (suc k) le = ap (λ rest. f first ∷ rest) (take_made f (suc first) many k (omega (arith, le)))

pub at_of : {A : Type 0} (xs : List A) (k : ℕ) → k < length xs → (x : A) × (slice_get xs k ≡ Some x)
at_of [] k lt = absurd (omega (arith, lt))
at_of (x ∷ xs) zero lt = (x, refl)
at_of (x ∷ xs) (suc k) lt = at_of xs k (omega (arith, lt))

pub in_take : {A : Type 0} (n : ℕ) (xs : List A) (k : ℕ) (x : A) → slice_get (take n xs) k ≡ Some x → slice_get xs k ≡ Some x
in_take zero xs k x e = absurd (cc)
in_take (suc n) [] k x e = e
in_take (suc n) (y ∷ xs) zero x e = e
in_take (suc n) (y ∷ xs) (suc k) x e = in_take n xs k x e

pub in_drop : {A : Type 0} (n : ℕ) (xs : List A) (k : ℕ) (x : A) → slice_get (drop n xs) k ≡ Some x → slice_get xs (n + k) ≡ Some x
in_drop zero xs k x e = ap (λ j. slice_get xs j) (none k) ∙ e where
  none : (k : ℕ) → 0 + k ≡ k
  none k = omega arith
in_drop (suc n) [] k x e = absurd (cc)
in_drop (suc n) (y ∷ xs) k x e = ap (λ j. slice_get (y ∷ xs) j) (after n k) ∙ in_drop n xs k x e where
  after : (n k : ℕ) → suc n + k ≡ suc (n + k)
  after n k = omega arith

-- cells that were kept

pub record WasKept {S P O R : Type 0} (ways : Ways S P O R) (procs many place : ℕ) (olds : List (Content P O R)) (k : ℕ) (new : Content P O R) : Type 0 where
  pub old : Content P O R
  pub at : slice_get olds k ≡ Some old
  pub kept : IsKept ways procs many place old new

pub kept_at : {S P O R : Type 0} (ways : Ways S P O R) (procs many first : ℕ) (olds news : List (Content P O R)) (k : ℕ) (new : Content P O R)
    → AreKept ways procs many first olds news → slice_get news k ≡ Some new → WasKept ways procs many (first + k) olds k new
kept_at ways procs many first [] [] k new are e = absurd (cc)
kept_at ways procs many first [] (y ∷ news) k new are e = absurd are
kept_at ways procs many first (x ∷ olds) [] k new are e = absurd are
kept_at ways procs many first (x ∷ olds) (y ∷ news) zero new are e =
    subst (λ p. WasKept ways procs many p (x ∷ olds) 0 new) (none first)
    (subst (λ z. WasKept ways procs many first (x ∷ olds) 0 z) (same_Some y new e) (record { old = x; at = refl; kept = are.0 }))
  where
    none : (n : ℕ) → n ≡ n + 0
    none n = omega arith
kept_at ways procs many first (x ∷ olds) (y ∷ news) (suc k) new are e =
    let rest = kept_at ways procs many (first + 1) olds news k new are.1 e in
    subst (λ p. WasKept ways procs many p (x ∷ olds) (suc k) new) (after first k) (record { old = rest.old; at = rest.at; kept = rest.kept })
  where
    after : (n k : ℕ) → n + 1 + k ≡ n + suc k
    after n k = omega arith

kept_number : {S P O R : Type 0} (ways : Ways S P O R) (procs many place : ℕ) (old new : Content P O R) → IsKept ways procs many place old new → new.number ≡ old.number
kept_number {O} {R} ways procs many place old new is =
    ⊎_elim (λ (e : new ≡ old). ap (λ (z : Content _ O R). z.number) e)
    (λ (e : (place < many) × (new ≡ record old { part = Some (unwrap_or old.part (ways.empty procs place)) })). ap (λ (z : Content _ O R). z.number) e.1) is

pub kept_numbers : {S P O R : Type 0} (ways : Ways S P O R) (procs many first : ℕ) (olds news : List (Content P O R)) → AreKept ways procs many first olds news
    → numbers_of news ≡ numbers_of olds
kept_numbers ways procs many first [] [] are = refl
kept_numbers ways procs many first [] (y ∷ news) are = absurd are
kept_numbers ways procs many first (x ∷ olds) [] are = absurd are
kept_numbers ways procs many first (x ∷ olds) (y ∷ news) are =
    λ i. kept_number ways procs many first x y are.0 i ∷ kept_numbers ways procs many (first + 1) olds news are.1 i

pub kept_held : {S P O R : Type 0} (ways : Ways S P O R) (procs many place : ℕ) (old new : Content P O R) (v : PassView P O R) → IsKept ways procs many place old new
    → IsHeld v.notes old → IsHeld v.notes new
kept_held ways procs many place old new v is held =
    ⊎_elim (λ (e : new ≡ old). subst (IsHeld v.notes) (sym e) held)
    (λ (e : (place < many) × (new ≡ record old { part = Some (unwrap_or old.part (ways.empty procs place)) })).
    subst (IsHeld v.notes) (sym e.1) (record { noted = held.noted; history = held.history; closed = held.closed })) is

-- cells that were filled

pub filled_numbers : {P O R : Type 0} (parts : List P) (cells : List (Content P O R)) → numbers_of (filled parts cells) ≡ numbers_of cells
filled_numbers parts [] = refl
filled_numbers [] (x ∷ cells) = ap (λ rest. x.number ∷ rest) (filled_numbers [] cells)
filled_numbers (part ∷ parts) (x ∷ cells) = ap (λ rest. x.number ∷ rest) (filled_numbers parts cells)

pub filled_parts : {P O R : Type 0} (parts : List P) (cells : List (Content P O R)) → HaveParts parts (filled parts cells)
filled_parts parts [] k content e = absurd (cc)
filled_parts {O} {R} [] (x ∷ cells) zero content e = ap (λ (z : Content _ O R). z.part) (sym (same_Some (record x { part = None }) content e))
filled_parts [] (x ∷ cells) (suc k) content e = filled_parts [] cells k content e
filled_parts {O} {R} (part ∷ parts) (x ∷ cells) zero content e = ap (λ (z : Content _ O R). z.part) (sym (same_Some (record x { part = Some part }) content e))
filled_parts (part ∷ parts) (x ∷ cells) (suc k) content e = filled_parts parts cells k content e

pub filled_held : {P O R : Type 0} (parts : List P) (cells : List (Content P O R)) (v : PassView P O R) → AreHeld v.notes cells → AreHeld v.notes (filled parts cells)
filled_held parts [] v held k content e = absurd (cc)
filled_held [] (x ∷ cells) v held zero content e =
    subst (IsHeld v.notes) (same_Some (record x { part = None }) content e)
    (let is = held 0 x refl in record { noted = is.noted; history = is.history; closed = is.closed })
filled_held [] (x ∷ cells) v held (suc k) content e = filled_held [] cells v (λ j y at. held (suc j) y at) k content e
filled_held (part ∷ parts) (x ∷ cells) v held zero content e =
    subst (IsHeld v.notes) (same_Some (record x { part = Some part }) content e)
    (let is = held 0 x refl in record { noted = is.noted; history = is.history; closed = is.closed })
filled_held (part ∷ parts) (x ∷ cells) v held (suc k) content e = filled_held parts cells v (λ j y at. held (suc j) y at) k content e

-- what stands in cells that were taken is what is due by the notes
pub parts_noted : {S P O R : Type 0} (ways : Ways S P O R) (procs : ℕ) (v : PassView P O R) (o i first many : ℕ) (cells : List (Content P O R))
    → numbers_of cells ≡ made_from (cell_of o i) first many → AreTaken v.notes cells
    → parts_from ways procs first cells ≡ made_from (part_due ways procs v.notes o i) first many
parts_noted ways procs v o i first zero [] are taken = refl
parts_noted ways procs v o i first zero (x ∷ cells) are taken = absurd (let long = ap length are in omega (arith, long))
parts_noted ways procs v o i first (suc many) [] are taken = absurd (let long = ap length are in omega (arith, long))
parts_noted ways procs v o i first (suc many) (x ∷ cells) are taken =
    let number : x.number ≡ cell_of o i first = ap first_of are in
    let part = (taken 0 x refl).part ∙ ap (part_noted v.notes) number in
    let rest = ap (λ k. parts_from ways procs k cells) (after first) ∙ parts_noted ways procs v o i (suc first) many cells (ap rest_of are) (λ j y at. taken (suc j) y at) in
    λ k. unwrap_or (part k) (ways.empty procs first) ∷ rest k
  where
    first_of : List ℕ → ℕ
    first_of [] = 0
    first_of (n ∷ ns) = n

    rest_of : List ℕ → List ℕ
    rest_of [] = []
    rest_of (n ∷ ns) = ns

    after : (n : ℕ) → n + 1 ≡ suc n
    after n = omega arith
