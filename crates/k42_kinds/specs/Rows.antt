-- Rows of parts: an object is kept as a row of cells with a part in each.
use Rattle.std.specs.Prelude.{ℕ, zero, suc, ◌<◌, List, [], ◌∷◌, Option, Some, None, option_map}
use Rattle.k42_kinds.specs.declared.entry.Reach.{Reach}
use Rattle.k42_kinds.specs.declared.entry.Reach.TheVariants.{One, All}
use Rattle.k42_shapes.specs.declared.shape.Shape.{Shape}
use Rattle.k42_shapes.specs.Shapes.{cells_of}

-- what a layout does with the parts of a row
pub record Ways (S P O R : Type 0) : Type 0 where
  -- which cells an operation needs, by the number of processors and the caller's processor
  pub reach : ℕ → O → ℕ → Reach
  -- the part with which an object begins, by the number of processors and the cell
  pub empty : ℕ → ℕ → P
  -- an operation on the one part that it needs
  pub part_after : P → O → P
  pub part_reply : P → O → R
  -- an operation on the whole row
  pub row_after : List P → O → List P
  pub row_reply : List P → O → R
  -- the state for which a row stands, and the row that is made of a state
  pub combine : List P → S
  pub imported : ℕ → S → List P

-- the values of the function at so many numbers from the first on
abbrev pub made_from : {P : Type 0} → (ℕ → P) → ℕ → ℕ → List P
made_from make first zero = []
made_from make first (suc more) = make first ∷ made_from make (suc first) more

-- the row with which an object begins
abbrev pub empty_row : {S P O R : Type 0} → Ways S P O R → Shape → ℕ → List P
empty_row ways shape procs = made_from (ways.empty procs) 0 (cells_of shape procs)

abbrev pub part_at : {P : Type 0} → List P → ℕ → Option P
part_at [] cell = None
part_at (part ∷ parts) zero = Some part
part_at (part ∷ parts) (suc cell) = part_at parts cell

-- one part is changed, and all others stay
abbrev pub changed_at : {P : Type 0} → (P → P) → List P → ℕ → List P
changed_at change [] cell = []
changed_at change (part ∷ parts) zero = change part ∷ parts
changed_at change (part ∷ parts) (suc cell) = part ∷ changed_at change parts cell

-- the parts after an operation at the cell or cells that it needs
abbrev pub row_moved : {S P O R : Type 0} → Ways S P O R → List P → O → Reach → List P
row_moved ways parts op (One cell) = changed_at (λ part. ways.part_after part op) parts cell
row_moved ways parts op All = ways.row_after parts op

-- and what it is replied there; an operation at a cell that is not in the row has no reply
abbrev pub row_replied : {S P O R : Type 0} → Ways S P O R → List P → O → Reach → Option R
row_replied ways parts op (One cell) = option_map (λ part. ways.part_reply part op) (part_at parts cell)
row_replied ways parts op All = Some (ways.row_reply parts op)

-- the cells that an operation needs are in a row of so many
abbrev pub IsWithin : ℕ → Reach → Type 0
IsWithin cells (One cell) = cell < cells
IsWithin cells All = 0 < cells
