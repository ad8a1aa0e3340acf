-- Pages spread over two cells: rows as they are due, and rows that are refused.
use Rattle.std.proofs.Common.{◌≡◌, ℕ, List, [], ◌∷◌, Option, Some, None, refl}
use Rattle.k42_kinds.specs.declared.page.Page.{Page}
use Rattle.k42_kinds.specs.Pages.{written}
use Rattle.k42_kinds.specs.declared.operation.Op.TheVariants.{Write, Read, Dirty, Clean}
use Rattle.k42_kinds.specs.declared.operation.Reply.TheVariants.{Text, Zero, Number}
use Rattle.k42_kinds.specs.declared.entry.Reach.TheVariants.{One, All}
use Rattle.co_pages.specs.Places.{CellPlaces, pages_of}
use Rattle.co_pages.specs.SpreadRows.{IsSpread, placed, no_pages, row_after, row_reply, spread_reach}

abbrev hi : Page
hi = written (104 ∷ 105 ∷ [])

abbrev cell : ℕ → List (Option Page) → CellPlaces
cell number places = record { procs = 2; cell = number; places = places }

-- page 5 is in the third place of the second cell
abbrev row : List CellPlaces
row = cell 0 [] ∷ cell 1 (None ∷ None ∷ Some hi ∷ []) ∷ []

put_there : placed (no_pages 2) (5, hi) ≡ row
put_there = refl

whole : IsSpread 2 row
whole = (refl, refl, (refl, refl, refl))

numbers : pages_of (cell 1 (Some hi ∷ None ∷ Some hi ∷ [])) ≡ (1, hi) ∷ (5, hi) ∷ []
numbers = refl

-- a write puts the next page into the first cell, and makes it dirty
written_next : row_after row (Write 6 (104 ∷ 105 ∷ [])) ≡ cell 0 (None ∷ None ∷ None ∷ Some hi ∷ []) ∷ cell 1 (None ∷ None ∷ Some hi ∷ []) ∷ []
written_next = refl

read_back : row_reply row (Read 5) ≡ Text (104 ∷ 105 ∷ [])
read_back = refl

-- a place before it is empty, and one behind it is not there
never_written : (row_reply row (Read 3) ≡ Zero) × (row_reply row (Read 7) ≡ Zero) × (row_reply row (Read 4) ≡ Zero)
never_written = (refl, refl, refl)

counted : (row_reply row Dirty ≡ Number 1) × (row_reply (row_after row Clean) Dirty ≡ Number 0)
counted = (refl, refl)

reached : (spread_reach 2 (Read 5) 0 ≡ One 1) × (spread_reach 2 Clean 1 ≡ All)
reached = (refl, refl)

-- the cells in the other order are no row, and one cell alone is none for two processors
refused_order : IsSpread 2 (cell 1 [] ∷ cell 0 [] ∷ []) → ⊥
refused_order whole = cc whole.1

refused_size : IsSpread 2 (cell 0 [] ∷ []) → ⊥
refused_size whole = cc whole.2
