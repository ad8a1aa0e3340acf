-- The places of one cell. Place k has the page whose number is the cell's own number and k times
-- the number of cells.
use Rattle.std.specs.Prelude.{ℕ, zero, suc, ◌+◌, ◌*◌, ◌/◌, ◌<◌, ◌^◌, Bool, false, List, [], ◌∷◌, length, map, count_by, Option, Some, None, option_map, refl}
use Rattle.std.specs.Coded.{Coded, code_by, coded×, coded_ℕ, coded_list, coded_option}
use Rattle.k42_kinds.specs.declared.page.Page.{Page}
use Rattle.k42_kinds.specs.Pages.{coded_page, cleaned}

pub record CellPlaces : Type 0 where
  -- how many cells there are, and which of them it is
  pub procs : ℕ
  pub cell : ℕ
  -- the page in each place, where it was written
  pub places : List (Option Page)

-- they are stored as the two numbers and the places
abbrev pub coded_places : Coded CellPlaces
coded_places = code_by (ℕ × (ℕ × List (Option Page))) (coded× coded_ℕ (coded× coded_ℕ (coded_list (coded_option coded_page)))) (λ here. (here.procs, (here.cell, here.places))) (λ stored. record { procs = stored.0; cell = stored.1.0; places = stored.1.1 }) (λ _. refl)

-- no page of the cell was ever written
abbrev pub no_places : ℕ → ℕ → CellPlaces
no_places procs cell = record { procs = procs; cell = cell; places = [] }

-- what is in a place; behind the last one no page was written
abbrev pub in_place : List (Option Page) → ℕ → Option Page
in_place [] place = None
in_place (page ∷ places) zero = page
in_place (page ∷ places) (suc place) = in_place places place

-- the page put into a place, with empty places before it where there were none
abbrev pub with_place : List (Option Page) → ℕ → Page → List (Option Page)
with_place [] zero page = Some page ∷ []
with_place [] (suc place) page = None ∷ with_place [] place page
with_place (old ∷ places) zero page = Some page ∷ places
with_place (old ∷ places) (suc place) page = old ∷ with_place places place page

-- the cell's page of this number
abbrev pub page_in : CellPlaces → ℕ → Option Page
page_in here number = in_place here.places (number / here.procs)

-- the cell with the page in the place of its number
abbrev pub with_page : CellPlaces → ℕ → Page → CellPlaces
with_page here number page = record {
  procs = here.procs;
  cell = here.cell;
  places = with_place here.places (number / here.procs) page;
}

-- no page of the cell is dirty, and each text is as before
abbrev pub all_clean : CellPlaces → CellPlaces
all_clean here = record {
  procs = here.procs;
  cell = here.cell;
  places = map (option_map cleaned) here.places;
}

abbrev pub has_dirty : Option Page → Bool
has_dirty (Some page) = page.dirty
has_dirty None = false

-- how many pages of the cell are dirty
abbrev pub dirty_in : CellPlaces → ℕ
dirty_in here = count_by has_dirty here.places

-- the pages that were written, with their numbers, which are a step apart from place to place
abbrev pub numbered : ℕ → ℕ → List (Option Page) → List (ℕ × Page)
numbered step number [] = []
numbered step number (Some page ∷ places) = (number, page) ∷ numbered step (number + step) places
numbered step number (None ∷ places) = numbered step (number + step) places

abbrev pub pages_of : CellPlaces → List (ℕ × Page)
pages_of here = numbered here.procs here.cell here.places

-- The number of each place has 16 bits, so that of the place behind the last one is less than a
-- step beyond.
abbrev pub HasShortNumbers : ℕ → ℕ → List (Option Page) → Type 0
HasShortNumbers procs cell places = cell + length places * procs < 2 ^ 16 + procs
