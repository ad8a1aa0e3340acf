-- The numbers of the cells. An object has two rows of eight, one for its even incarnations and one for its
-- odd ones; as many of a row are cells as there are processors.
use Rattle.std.specs.Prelude.{ℕ, ◌+◌, ◌*◌, ◌/◌, ◌%◌, List}
use Rattle.k42_kinds.specs.Rows.{made_from}

abbrev pub cell_of : ℕ → ℕ → ℕ → ℕ
cell_of o i p = (o * 2 + i % 2) * 8 + p

-- the object of a cell, and its place in the row
abbrev pub object_of : ℕ → ℕ
object_of n = n / 16

abbrev pub place_of : ℕ → ℕ
place_of n = n % 8

-- the first so many cells of a row, in rising order
abbrev pub row_cells : ℕ → ℕ → ℕ → List ℕ
row_cells procs o i = made_from (cell_of o i) 0 procs
