-- Pages spread over the cells of a row, one cell for each processor: page i lives in cell i
-- modulo the number of cells.
use Rattle.std.specs.Prelude.{◌≡◌, ℕ, suc, ◌%◌, List, [], ◌∷◌, length, map, fold, sum_by, Option, option_and_then}
use Rattle.std.specs.FinMap as finite
use Rattle.k42_kinds.specs.declared.page.Page.{Page}
use Rattle.k42_kinds.specs.declared.operation.Op.{Op}
use Rattle.k42_kinds.specs.declared.operation.Op.TheVariants.{Write, Read, Dirty, Clean}
use Rattle.k42_kinds.specs.declared.operation.Reply.{Reply}
use Rattle.k42_kinds.specs.declared.operation.Reply.TheVariants.{Done, Number, Gone}
use Rattle.k42_kinds.specs.declared.entry.Reach.{Reach}
use Rattle.k42_kinds.specs.declared.entry.Reach.TheVariants.{One, All}
use Rattle.k42_kinds.specs.Pages.{written}
use Rattle.k42_kinds.specs.Objects.{Pages, found_text}
use Rattle.k42_kinds.specs.Rows.{Ways, part_at, changed_at, made_from}
use Rattle.co_pages.specs.PutIn.{put_in}
use Rattle.co_pages.specs.Places.{CellPlaces, no_places, page_in, with_page, all_clean, dirty_in, pages_of}

-- the cells bear their numbers, from a first one on, and know how many they are
abbrev pub AreCells : ℕ → ℕ → List CellPlaces → Type 0
AreCells procs cell [] = cell ≡ procs
AreCells procs cell (here ∷ others) = (here.procs ≡ procs) × (here.cell ≡ cell) × AreCells procs (suc cell) others

-- a cell for each processor
abbrev pub IsSpread : ℕ → List CellPlaces → Type 0
IsSpread procs row = AreCells procs 0 row

-- the page of this number, in the cell where it lives
abbrev pub page_of : List CellPlaces → ℕ → Option Page
page_of row number = option_and_then (λ here. page_in here number) (part_at row (number % length row))

-- the page is put into its cell
abbrev pub placed : List CellPlaces → ℕ × Page → List CellPlaces
placed row entry = changed_at (λ here. with_page here entry.0 entry.1) row (entry.0 % length row)

abbrev pub dirty_of : List CellPlaces → ℕ
dirty_of row = sum_by dirty_in row

-- the pages of a cell put into a map
abbrev pub cell_put_in : Pages → CellPlaces → Pages
cell_put_in pages here = fold put_in pages (pages_of here)

-- the pages of all cells together
abbrev pub collected : List CellPlaces → Pages
collected row = fold cell_put_in finite.empty row

-- cells in which no page was ever written
abbrev pub no_pages : ℕ → List CellPlaces
no_pages procs = made_from (no_places procs) 0 procs

-- a caller reads and writes a page where it lives; the others need all pages
abbrev pub spread_reach : ℕ → Op → ℕ → Reach
spread_reach procs (Write number text) proc = One (number % procs)
spread_reach procs (Read number) proc = One (number % procs)
spread_reach procs _ proc = All

abbrev pub cell_after : CellPlaces → Op → CellPlaces
cell_after here (Write number text) = with_page here number (written text)
cell_after here _ = here

abbrev pub cell_reply : CellPlaces → Op → Reply
cell_reply here (Write number text) = Done
cell_reply here (Read number) = found_text (page_in here number)
cell_reply here _ = Gone

abbrev pub row_after : List CellPlaces → Op → List CellPlaces
row_after row (Write number text) = placed row (number, written text)
row_after row Clean = map all_clean row
row_after row _ = row

abbrev pub row_reply : List CellPlaces → Op → Reply
row_reply row (Write number text) = Done
row_reply row (Read number) = found_text (page_of row number)
row_reply row Dirty = Number (dirty_of row)
row_reply row Clean = Number (dirty_of row)
row_reply row _ = Gone

abbrev pub spread : Ways Pages CellPlaces Op Reply
spread = record {
  reach = spread_reach;
  empty = no_places;
  part_after = cell_after;
  part_reply = cell_reply;
  row_after = row_after;
  row_reply = row_reply;
  combine = collected;
  imported = λ procs pages. fold placed (no_pages procs) (finite.entries pages);
}
