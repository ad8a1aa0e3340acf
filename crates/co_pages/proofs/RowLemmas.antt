-- What the code does along a row of cells.
use Rattle.std.proofs.Common.{◌≡◌, ℕ, zero, suc, ◌+◌, ◌%◌, ◌<◌, List, [], ◌∷◌, length, set, get_or, Some, option_and_then, OnOk, refl, sym, ap, subst, ◌∙◌, arith, mod-lt}
use Rattle.std.specs.declared.result.Result.{Result}
use Rattle.std.specs.declared.result.Result.TheVariants.{Ok, Err}
use Rattle.k42_memory.specs.declared.Memory.{Memory}
use Rattle.k42_kinds.proofs.RowSteps.{part_there}
use Rattle.std.proofs.lemmas.Option.{same_Some}
use Rattle.k42_kinds.specs.declared.page.Page.{Page}
use Rattle.k42_kinds.specs.declared.operation.Op.TheVariants.{Write}
use Rattle.k42_kinds.specs.declared.entry.Reach.{Reach}
use Rattle.k42_kinds.specs.declared.entry.Reach.TheVariants.{One, All}
use Rattle.k42_kinds.specs.Rows.{part_at, changed_at}
use Rattle.k42_kinds.specs.LayoutLaws.{IsReached}
use Rattle.co_pages.specs.Places.{CellPlaces, page_in, with_page}
use Rattle.co_pages.specs.SpreadRows.{AreCells, IsSpread, page_of, placed, spread}
use Rattle.co_pages.specs.RowLaws.{length-spread}

pub set-changed : (change : CellPlaces → CellPlaces) (row : List CellPlaces) (cell : ℕ) (old new : CellPlaces) → cell < length row → old ≡ get_or row cell old → new ≡ change old → set row cell new ≡ changed_at change row cell
set-changed change [] cell old new there is changed = refl
set-changed change (here ∷ others) zero old new there is changed = ap (λ first. first ∷ others) (changed ∙ ap change is)
set-changed change (here ∷ others) (suc cell) old new there is changed = ap (λ rest. here ∷ rest) (set-changed change others cell old new (omega (arith, there)) is changed)

-- the cell at a place of the row bears its number, and knows how many cells there are
pub record IsCell (many own : ℕ) (here : CellPlaces) : Type 0 where
  pub procs : here.procs ≡ many
  pub cell : here.cell ≡ own

pub cell_at : (procs first at : ℕ) (row : List CellPlaces) (here : CellPlaces) → AreCells procs first row → at < length row → here ≡ get_or row at here → IsCell procs (first + at) here
cell_at procs first at [] here whole there is = absurd (omega (arith, there))
cell_at procs first zero (own ∷ others) here whole there is = record {
  procs = ap (λ h. h.procs) is ∙ whole.0;
  cell = ap (λ h. h.cell) is ∙ whole.1 ∙ omega arith;
}
cell_at procs first (suc at) (own ∷ others) here whole there is =
    let found = cell_at procs (suc first) at others here whole.2 (omega (arith, there)) is in
    record { procs = found.procs; cell = found.cell ∙ omega arith }

pub cell_reached : (procs first at : ℕ) (row : List CellPlaces) (here : CellPlaces) → AreCells procs first row → part_at row at ≡ Some here → IsCell procs (first + at) here
cell_reached procs first at [] here whole is = cc is
cell_reached procs first zero (own ∷ others) here whole is = record {
  procs = ap (λ h. h.procs) (sym (same_Some own here is)) ∙ whole.0;
  cell = ap (λ h. h.cell) (sym (same_Some own here is)) ∙ whole.1 ∙ omega arith;
}
cell_reached procs first (suc at) (own ∷ others) here whole is =
    let found = cell_reached procs (suc first) at others here whole.2 is in
    record { procs = found.procs; cell = found.cell ∙ omega arith }

-- ---- a page in the cell where it lives
module _ (procs number cell : ℕ) (row : List CellPlaces) (some : 0 < procs) (whole : IsSpread procs row) (own : cell ≡ number % length row) where
  own_within : cell < length row
  own_within = subst (λ (n : ℕ). n < length row) (sym own) (mod-lt number (omega (arith, some, length-spread procs row whole)))

  module _ (here : CellPlaces) (is : here ≡ get_or row cell here) where
    pub own_cell : number % here.procs ≡ here.cell
    own_cell =
        let found = cell_at procs 0 cell row here whole own_within is in
        ap (λ n. number % n) (found.procs ∙ sym (length-spread procs row whole)) ∙ sym own ∙ sym (found.cell ∙ omega arith)

    pub page_of-there : page_in here number ≡ page_of row number
    page_of-there = ap (option_and_then (λ part. page_in part number)) (sym (part_there row cell here own_within is) ∙ ap (part_at row) own)

    module _ (page : Page) (new : CellPlaces) where
      pub put_moved : (result : Result (Unit {0}) Memory) → OnOk result (new ≡ with_page here number page) → OnOk result (set row cell new ≡ placed row (number, page))
      put_moved (Ok done) moved = set-changed (λ part. with_page part number page) row cell here new own_within is moved ∙ ap (changed_at (λ part. with_page part number page) row) own
      put_moved (Err memory) moved = tt

abbrev cell_of : Reach → ℕ
cell_of (One cell) = cell
cell_of All = 0

-- the cell that a write needs is the page's own
pub reached_own : (here : CellPlaces) (number : ℕ) (text : List ℕ) → IsReached spread IsSpread here (Write number text) → number % here.procs ≡ here.cell
reached_own here number text reached =
    let found = cell_reached reached.procs 0 reached.cell reached.parts here reached.whole reached.there in
    ap (λ n. number % n) found.procs ∙ ap cell_of reached.needed ∙ sym (found.cell ∙ omega arith)

-- the first cell knows how many there are
pub known_size : (procs : ℕ) (row : List CellPlaces) (here : CellPlaces) → 0 < procs → IsSpread procs row → here ≡ get_or row 0 here → length row ≡ here.procs
known_size procs row here some whole is =
    let sized = length-spread procs row whole in
    let found = cell_at procs 0 0 row here whole (omega (arith, sized, some)) is in
    sized ∙ sym found.procs
