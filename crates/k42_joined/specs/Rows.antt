-- The rows of an object, as the histories of its cells and the layouts of its hands tell them.
use Rattle.std.specs.Prelude.{◌≡◌, ℕ, ◌/◌, List, [], ◌∷◌, ◌++◌, map, slice_index_or}
use Rattle.k42_kinds.specs.declared.entry.Entry.{Entry}
use Rattle.k42_kinds.specs.declared.entry.Reach.{Reach}
use Rattle.k42_kinds.specs.declared.entry.Reach.TheVariants.{One, All}
use Rattle.turn_core.specs.Sound.{histories_of}
use Rattle.k42_stamp.specs.Layouts.{Layouts}
use Rattle.k42_stamp.specs.Chains.{Chain}
use Rattle.k42_stamp.specs.Fits.{Fits}
use Rattle.k42_joined.specs.Plain.{Joined}
use Rattle.k42_joined.specs.Numbers.{cell_of, row_cells}
use Rattle.k42_joined.specs.State.{cell_in, layouts_of}

-- The history that a cell had or has in the life that is this row: the cells of a row begin with life 0 or 1,
-- and each further life is 2 more.
abbrev pub history_in : {L O R : Type 0} → Joined L O R → ℕ → ℕ → ℕ → List (Entry O R)
history_in s o row p = slice_index_or (histories_of (cell_in s o row p)) (row / 2) []

-- the cells of a row that are needed
abbrev pub cells_reached : ℕ → ℕ → ℕ → Reach → List ℕ
cells_reached procs o i (One p) = cell_of o i p ∷ []
cells_reached procs o i All = row_cells procs o i

-- the layouts of an object's rows, the newest first
abbrev pub layouts_in : {L P O R : Type 0} → Chain L P O R → List L
layouts_in chain = chain.row.layout ∷ map (λ turn. turn.row.layout) chain.past

-- The rows fit the histories of the object's cells, the first with the declared layout, each further one with
-- that of its hand.
pub record AreRowsOf
    {S L P O R : Type 0} (F : Layouts S L P O R) (declared : L) (s : Joined L O R) (o : ℕ) (chain : Chain L P O R)
    : Type 0 where
  pub fits : Fits F declared o (history_in s o) chain
  pub layouts : layouts_in chain ≡ layouts_of s o ++ declared ∷ []
