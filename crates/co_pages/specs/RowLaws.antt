-- What a row of cells stands for, and what its steps make of that.
use Rattle.std.specs.Prelude.{◌≡◌, ◌≢◌, ℕ, zero, suc, ◌+◌, ◌*◌, ◌/◌, ◌%◌, ◌<◌, ◌≤◌, cond, List, [], ◌∷◌, length, map, fold, sum_by, Option, Some, None, option_map, option_and_then, refl}
use Rattle.std.specs.Option.{option_or}
use Rattle.std.proofs.Common.{arith, sym, ap, subst, ◌∙◌, ⊎_elim, mod-lt}
use Rattle.std.proofs.Math.Nat.{mod-add-div'}
use Rattle.std.proofs.lemmas.Bool.Decides.{eqb_tells}
use Rattle.std.proofs.lemmas.List.Sums.{sum_by-cons}
use Rattle.std.specs.Ordering.{nat_cmp}
use Rattle.std.specs.Cmp.{nat_cmp_total}
use Rattle.std.specs.FinMap as finite
use Rattle.std.specs.FinMap.{get-empty, same_map, nat_cmp-IsAntisymmetric}
use Rattle.k42_kinds.specs.declared.page.Page.{Page}
use Rattle.k42_kinds.specs.Pages.{cleaned, all_cleaned, dirty_count}
use Rattle.k42_kinds.specs.Objects.{Pages}
use Rattle.k42_kinds.specs.Rows.{part_at, changed_at, made_from}
use Rattle.k42_kinds.proofs.SeenMaps.{entries-empty}
use Rattle.k42_kinds.proofs.FiniteMaps.{get-changed}
use Rattle.co_pages.specs.PutIn.{put_in}
use Rattle.co_pages.specs.Places.{CellPlaces, no_places, page_in, with_page, all_clean, dirty_in}
use Rattle.co_pages.specs.SpreadRows.{AreCells, IsSpread, page_of, placed, dirty_of, cell_put_in, collected, no_pages}
use Rattle.co_pages.specs.CellLaws.{get-here, get-elsewhere, get-other_cell, get-own_cell, count-cell, in_place-with_place, in_place-elsewhere, in_place-cleaned}

-- ---- cells keep their numbers
pub last_cell : (procs cell : ℕ) (row : List CellPlaces) → AreCells procs cell row → cell + length row ≡ procs
last_cell procs cell [] whole = omega (arith, whole)
last_cell procs cell (here ∷ others) whole = omega (arith, last_cell procs (suc cell) others whole.2)

pub length-spread : (procs : ℕ) (row : List CellPlaces) → IsSpread procs row → length row ≡ procs
length-spread procs row whole = omega (arith, last_cell procs 0 row whole)

cell_within : (procs cell : ℕ) (here : CellPlaces) (others : List CellPlaces) → AreCells procs cell (here ∷ others) → cell < procs
cell_within procs cell here others whole = omega (arith, last_cell procs (suc cell) others whole.2)

pub still_cells : (procs cell : ℕ) (row : List CellPlaces) (at number : ℕ) (page : Page) → AreCells procs cell row → AreCells procs cell (changed_at (λ here. with_page here number page) row at)
still_cells procs cell [] at number page whole = whole
still_cells procs cell (here ∷ others) zero number page whole = whole
still_cells procs cell (here ∷ others) (suc at) number page whole = (whole.0, whole.1, still_cells procs (suc cell) others at number page whole.2)

pub still_spread : (procs : ℕ) (row : List CellPlaces) (entry : ℕ × Page) → IsSpread procs row → IsSpread procs (placed row entry)
still_spread procs row entry whole = still_cells procs 0 row (entry.0 % length row) entry.0 entry.1 whole

pub clean_cells : (procs cell : ℕ) (row : List CellPlaces) → AreCells procs cell row → AreCells procs cell (map all_clean row)
clean_cells procs cell [] whole = whole
clean_cells procs cell (here ∷ others) whole = (whole.0, whole.1, clean_cells procs (suc cell) others whole.2)

pub made_cells : (procs cell many : ℕ) → cell + many ≡ procs → AreCells procs cell (made_from (no_places procs) cell many)
made_cells procs cell zero is = omega (arith, is)
made_cells procs cell (suc many) is = (refl, refl, made_cells procs (suc cell) many (omega (arith, is)))

-- ---- the page of a number is in the cell that is named
abbrev page_at : List CellPlaces → ℕ → ℕ → Option Page
page_at row at number = option_and_then (λ here. page_in here number) (part_at row at)

get-before : (procs cell : ℕ) (row : List CellPlaces) (m : Pages) (number : ℕ) → AreCells procs cell row → number % procs < cell → finite.get (fold cell_put_in m row) number ≡ finite.get m number
get-before procs cell [] m number whole below = refl
get-before procs cell (here ∷ others) m number whole below =
    get-before procs (suc cell) others (cell_put_in m here) number whole.2 (omega (arith, below))
    ∙ get-other_cell procs cell here m number whole.0 whole.1 (cell_within procs cell here others whole) (λ e. omega (arith, e, below))

get-from : (procs cell at : ℕ) (row : List CellPlaces) (m : Pages) (number : ℕ) → AreCells procs cell row → number % procs ≡ cell + at → finite.get (fold cell_put_in m row) number ≡ option_or (page_at row at number) (finite.get m number)
get-from procs cell at [] m number whole is = refl
get-from procs cell zero (here ∷ others) m number whole is =
    get-before procs (suc cell) others (cell_put_in m here) number whole.2 (omega (arith, is))
    ∙ get-own_cell procs cell here m number whole.0 whole.1 (cell_within procs cell here others whole) (omega (arith, is))
get-from procs cell (suc at) (here ∷ others) m number whole is =
    get-from procs (suc cell) at others (cell_put_in m here) number whole.2 (omega (arith, is))
    ∙ ap (option_or (page_at others at number)) (get-other_cell procs cell here m number whole.0 whole.1 (cell_within procs cell here others whole) (λ e. omega (arith, e, is)))

or_none : {A : Type 0} (found : Option A) → option_or found None ≡ found
or_none None = refl
or_none (Some x) = refl

pub get-collected : (procs : ℕ) (row : List CellPlaces) (number : ℕ) → IsSpread procs row → finite.get (collected row) number ≡ page_of row number
get-collected procs row number whole =
    get-from procs 0 (number % procs) row finite.empty number whole (omega arith)
    ∙ ap (option_or (page_at row (number % procs) number)) (get-empty nat_cmp number)
    ∙ or_none _
    ∙ ap (λ n. page_at row (number % n) number) (sym (length-spread procs row whole))

-- ---- a write
length-changed : (change : CellPlaces → CellPlaces) (row : List CellPlaces) (at : ℕ) → length (changed_at change row at) ≡ length row
length-changed change [] at = refl
length-changed change (here ∷ others) zero = refl
length-changed change (here ∷ others) (suc at) = ap suc (length-changed change others at)

page_at-here : (row : List CellPlaces) (at number : ℕ) (page : Page) → at < length row → page_at (changed_at (λ here. with_page here number page) row at) at number ≡ Some page
page_at-here [] at number page within = absurd (omega (arith, within))
page_at-here (here ∷ others) zero number page within = in_place-with_place here.places (number / here.procs) page
page_at-here (here ∷ others) (suc at) number page within = page_at-here others at number page (omega (arith, within))

-- numbers of one cell and one place are the same
same_number : (procs number other : ℕ) → number % procs ≡ other % procs → number / procs ≡ other / procs → number ≡ other
same_number procs number other cells places = sym (mod-add-div' number procs) ∙ ap (λ c. c + number / procs * procs) cells ∙ ap (λ p. other % procs + p * procs) places ∙ mod-add-div' other procs

page_at-elsewhere : (procs cell at own : ℕ) (row : List CellPlaces) (number other : ℕ) (page : Page) → AreCells procs cell row → number % procs ≡ cell + at → other % procs ≡ cell + own → other ≢ number → page_at (changed_at (λ here. with_page here number page) row at) own other ≡ page_at row own other
page_at-elsewhere procs cell at own [] number other page whole is own_is apart = refl
page_at-elsewhere procs cell zero zero (here ∷ others) number other page whole is own_is apart =
    in_place-elsewhere here.places (number / here.procs) (other / here.procs) page (λ e.
    apart (same_number procs other number (own_is ∙ sym is) (ap (λ p. other / p) (sym whole.0) ∙ e ∙ ap (λ p. number / p) whole.0)))
page_at-elsewhere procs cell zero (suc own) (here ∷ others) number other page whole is own_is apart = refl
page_at-elsewhere procs cell (suc at) zero (here ∷ others) number other page whole is own_is apart = refl
page_at-elsewhere procs cell (suc at) (suc own) (here ∷ others) number other page whole is own_is apart =
    page_at-elsewhere procs (suc cell) at own others number other page whole.2 (omega (arith, is)) (omega (arith, own_is)) apart

module _ (procs : ℕ) (row : List CellPlaces) (number : ℕ) (page : Page) (some : 0 < procs) (whole : IsSpread procs row) where
  abbrev sized : length row ≡ procs
  sized = length-spread procs row whole

  abbrev row' : List CellPlaces
  row' = placed row (number, page)

  page_of-written : page_of row' number ≡ Some page
  page_of-written =
      ap (λ n. page_at row' (number % n) number) (length-changed _ row (number % length row))
      ∙ page_at-here row (number % length row) number page (mod-lt number (subst (λ (n : ℕ). 0 < n) (sym sized) some))

  in_own : (other : ℕ) → other % procs ≡ 0 + other % length row
  in_own other = let e : other % length row ≡ other % procs = ap (λ n. other % n) sized in omega (arith, e)

  page_of-others : (other : ℕ) → other ≢ number → page_of row' other ≡ page_of row other
  page_of-others other apart =
      ap (λ n. page_at row' (other % n) other) (length-changed _ row (number % length row))
      ∙ page_at-elsewhere procs 0 (number % length row) (other % length row) row number other page whole (in_own number) (in_own other) apart

  -- to place one page more is to put it into the map
  pub collected-written : collected row' ≡ put_in (collected row) (number, page)
  collected-written = same_map nat_cmp_total nat_cmp-IsAntisymmetric _ _ (λ other.
      get-collected procs row' other (still_spread procs row (number, page) whole)
      ∙ ⊎_elim
      (λ same. ap (page_of row') same.1 ∙ page_of-written ∙ sym (get-here (collected row) number page) ∙ ap (finite.get (put_in (collected row) (number, page))) (sym same.1))
      (λ apart. page_of-others other apart.1 ∙ sym (get-collected procs row other whole) ∙ sym (get-elsewhere (collected row) number page other apart.1))
      (eqb_tells other number))

-- ---- a clean
length-clean : (row : List CellPlaces) → length (map all_clean row) ≡ length row
length-clean [] = refl
length-clean (here ∷ others) = ap suc (length-clean others)

page_at-clean : (row : List CellPlaces) (at number : ℕ) → page_at (map all_clean row) at number ≡ option_map cleaned (page_at row at number)
page_at-clean [] at number = refl
page_at-clean (here ∷ others) zero number = in_place-cleaned here.places (number / here.procs)
page_at-clean (here ∷ others) (suc at) number = page_at-clean others at number

pub collected-clean : (procs : ℕ) (row : List CellPlaces) → IsSpread procs row → collected (map all_clean row) ≡ all_cleaned (collected row)
collected-clean procs row whole = same_map nat_cmp_total nat_cmp-IsAntisymmetric _ _ (λ number.
    get-collected procs (map all_clean row) number (clean_cells procs 0 row whole)
    ∙ ap (λ n. page_at (map all_clean row) (number % n) number) (length-clean row)
    ∙ page_at-clean row (number % length row) number
    ∙ ap (option_map cleaned) (sym (get-collected procs row number whole))
    ∙ sym (get-changed nat_cmp cleaned (collected row) number))

-- ---- a count
count-from : (procs cell : ℕ) (row : List CellPlaces) (m : Pages) → AreCells procs cell row → ((number : ℕ) → cell ≤ number % procs → finite.get m number ≡ None) → dirty_count (fold cell_put_in m row) ≡ dirty_count m + dirty_of row
count-from procs cell [] m whole new = omega arith
count-from procs cell (here ∷ others) m whole new =
    let within = cell_within procs cell here others whole in
    let one = count-cell procs cell here m whole.0 whole.1 within (λ number is. new number (omega (arith, is))) in
    let more = count-from procs (suc cell) others (cell_put_in m here) whole.2 (λ number beyond.
    get-other_cell procs cell here m number whole.0 whole.1 within (λ e. omega (arith, e, beyond)) ∙ new number (omega (arith, beyond))) in
    more ∙ omega (arith, one, sum_by-cons dirty_in here others)

no_dirty : dirty_count finite.empty ≡ 0
no_dirty = ap (λ es. sum_by (λ page. cond page.dirty 1 0) (map (λ entry. entry.1) es)) (entries-empty nat_cmp)

pub count-collected : (procs : ℕ) (row : List CellPlaces) → IsSpread procs row → dirty_count (collected row) ≡ dirty_of row
count-collected procs row whole =
    count-from procs 0 row finite.empty whole (λ number _. get-empty nat_cmp number)
    ∙ omega (arith, no_dirty)

-- ---- no pages, and pages put back
pub no_cells : (procs : ℕ) → IsSpread procs (no_pages procs)
no_cells procs = made_cells procs 0 procs (omega arith)

pub collected-none : (procs first many : ℕ) (m : Pages) → fold cell_put_in m (made_from (no_places procs) first many) ≡ m
collected-none procs first zero m = refl
collected-none procs first (suc many) m = collected-none procs (suc first) many m

pub refilled_row : (procs : ℕ) (entries : List (ℕ × Page)) (row : List CellPlaces) → 0 < procs → IsSpread procs row → collected (fold placed row entries) ≡ fold put_in (collected row) entries
refilled_row procs [] row some whole = refl
refilled_row procs (entry ∷ entries) row some whole =
    refilled_row procs entries (placed row entry) some (still_spread procs row entry whole)
    ∙ ap (λ m. fold put_in m entries) (collected-written procs row entry.0 entry.1 some whole)

pub refilled_cells : (procs : ℕ) (entries : List (ℕ × Page)) (row : List CellPlaces) → IsSpread procs row → IsSpread procs (fold placed row entries)
refilled_cells procs [] row whole = whole
refilled_cells procs (entry ∷ entries) row whole = refilled_cells procs entries (placed row entry) (still_spread procs row entry whole)
