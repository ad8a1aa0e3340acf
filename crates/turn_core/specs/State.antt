-- Reading and changing one place of a state, and the state that was just made.
use Rattle.std.specs.Prelude.{ℕ, ◌≡◌, ◌*◌, ◌<◌, ◌≤◌, true, false, List, [], ◌∷◌, length, map, replicate, None, slice_index_or, slice_set}
use Rattle.k42_limits.specs.declared.TheConstants.{OBJECTS, CALLERS, PROCESSORS}
use Rattle.turn_core.specs.Plain.{Cell, Caller, Turns}

-- a cell of this life that nobody has used
abbrev pub fresh_cell : {O R : Type 0} → ℕ → Cell O R
fresh_cell life = record { lock = None; home = true; closed = false; life = life; history = []; past = [] }

-- a caller that holds nothing and has drawn nothing
abbrev pub fresh_caller : {O R : Type 0} → Caller O R
fresh_caller = record { held = []; mine = []; clock = 0 }

-- a cell for each of these lives, and so many callers
abbrev pub fresh_cells : {O R : Type 0} → List ℕ → List (Cell O R)
fresh_cells lives = map fresh_cell lives

abbrev pub fresh_callers : {O R : Type 0} → ℕ → List (Caller O R)
fresh_callers callers = replicate callers fresh_caller

abbrev pub fresh : {O R : Type 0} → List ℕ → ℕ → Turns O R
fresh lives callers = record { cells = fresh_cells lives; callers = fresh_callers callers }

-- one to sixteen callers, and a life for each of the cells, of which a system has two rows for each object
pub record IsPlan (cells callers : ℕ) (lives : List ℕ) : Type 0 where
  pub some_callers : 0 < callers
  pub few_callers : callers ≤ CALLERS
  pub few_cells : cells ≤ OBJECTS * 2 * PROCESSORS
  pub a_life_each : length lives ≡ cells

abbrev pub cell_at : {O R : Type 0} → Turns O R → ℕ → Cell O R
cell_at s n = slice_index_or s.cells n (fresh_cell 0)

abbrev pub caller_at : {O R : Type 0} → Turns O R → ℕ → Caller O R
caller_at s c = slice_index_or s.callers c fresh_caller

abbrev pub clock_of : {O R : Type 0} → Turns O R → ℕ → ℕ
clock_of s c = (caller_at s c).clock

abbrev pub put_cell : {O R : Type 0} → Turns O R → ℕ → Cell O R → Turns O R
put_cell s n x = record s { cells = slice_set s.cells n x }

abbrev pub put_caller : {O R : Type 0} → Turns O R → ℕ → Caller O R → Turns O R
put_caller s c x = record s { callers = slice_set s.callers c x }

-- what becomes of one cell, and of one caller
abbrev pub change_cell : {O R : Type 0} → (Cell O R → Cell O R) → Turns O R → ℕ → Turns O R
change_cell changed s n = put_cell s n (changed (cell_at s n))

abbrev pub change_caller : {O R : Type 0} → (Caller O R → Caller O R) → Turns O R → ℕ → Turns O R
change_caller changed s c = put_caller s c (changed (caller_at s c))

-- what becomes of each of these cells, one after the other
abbrev pub change_cells : {O R : Type 0} → (Cell O R → Cell O R) → Turns O R → List ℕ → Turns O R
change_cells changed s [] = s
change_cells changed s (n ∷ names) = change_cells changed (change_cell changed s n) names
