-- The rule of a table with one word and one slot, which is taken by a swap that finds 0 in the word.
use Rattle.std.specs.Prelude.{◌≡◌, ◌∷◌, [], Option, Some, slice_index, length}
use mathlib.Core.Option.{some}
use lib.ListN.{get_elem?}
use Rattle.atomic_table.specs.Seated.{TableId}
use Rattle.atomic_table.specs.Table.{State, Me}

-- a desk: its key, and which table it is
pub record DeskSeen (K : Type 0) : Type 0 where
  pub key : K
  pub table : TableId

-- what was taken out of which table
pub record LoanSeen (T : Type 0) : Type 0 where
  pub table : TableId
  pub taken : Option T

module _ {T K : Type 0} where
  -- where the word is 0, the value is at home and fits
  abbrev pub Guarded : (T → Type 0) → State (Option T) (K × Option T) → Type 0
  Guarded fits s =
      (length s.words ≡ 1)
      × (slice_index s.words 0 ≡ 0 → (value : T) × (get_elem? s.homes 0 ≡ some (some (Some value))) × fits value)

  -- whoever has taken it has it, and nothing else, and knows what it is
  abbrev pub Seized : (T → Type 0) → Me (Option T) (K × Option T) → Type 0
  Seized fits me = (value : T) × (me.1 ≡ (0, Some value) ∷ []) × (me.0.1 ≡ Some value) × fits value

  abbrev pub HasOnly : Me (Option T) (K × Option T) → Type 0
  HasOnly me = (held : Option T) × (me.1 ≡ (0, held) ∷ [])
