-- How many cells a row has and which of them a processor calls, and the numbers of an object's layouts.
use Rattle.std.specs.Prelude.{◌≡◌, ℕ, zero, suc, ◌<◌, ◌≤◌, ◌==◌, ◌+◌, ◌-◌, ◌*◌, ◌/◌, Bool, List, [], ◌∷◌, length, slice_index_or, ⊤}
use Rattle.k42_shapes.specs.declared.shape.Shape.{Shape}
use Rattle.k42_shapes.specs.declared.shape.Shape.TheVariants.{One, Each, Groups}

-- a group has this many neighbouring processors, and never none
abbrev pub width_of : ℕ → ℕ
width_of zero = 1
width_of (suc more) = suc more

-- the cell that a processor calls
abbrev pub cell_called : Shape → ℕ → ℕ
cell_called One proc = 0
cell_called Each proc = proc
cell_called (Groups width) proc = proc / width_of width

-- how many cells a row has: in groups one more than the cell of the last processor
abbrev pub cells_of : Shape → ℕ → ℕ
cells_of One procs = 1
cells_of Each procs = procs
cells_of (Groups width) procs = (procs - 1) / width_of width + 1

-- the processor is in the group of this number
pub record IsInGroup (width group proc : ℕ) : Type 0 where
  pub from : group * width ≤ proc
  pub below : proc < group * width + width

-- one group has both processors
pub record AreInOneGroup (width one other : ℕ) : Type 0 where
  pub group : ℕ
  pub has_one : IsInGroup width group one
  pub has_other : IsInGroup width group other

-- two processors are to share a cell
abbrev pub AreTogether : Shape → ℕ → ℕ → Type 0
AreTogether One one other = ⊤
AreTogether Each one other = one ≡ other
AreTogether (Groups width) one other = AreInOneGroup (width_of width) one other

-- some processor calls the cell
pub record IsCalled (shape : Shape) (procs cell : ℕ) : Type 0 where
  pub proc : ℕ
  pub there : proc < procs
  pub called : cell_called shape proc ≡ cell

-- An object's live layouts are numbered from 0. The next number is that of the dead one, which has one cell.

abbrev pub IsKnownTag : List Shape → ℕ → Type 0
IsKnownTag shapes tag = tag ≤ length shapes

abbrev pub IsLiveTag : List Shape → ℕ → Type 0
IsLiveTag shapes tag = tag < length shapes

abbrev pub is_dead_tag : List Shape → ℕ → Bool
is_dead_tag shapes tag = tag == length shapes

abbrev pub shape_at : List Shape → ℕ → Shape
shape_at shapes tag = slice_index_or shapes tag One

-- the layouts of an object of the program: shared, and spread
abbrev pub shared_and_spread : List Shape
shared_and_spread = One ∷ Each ∷ []
