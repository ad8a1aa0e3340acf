-- The layouts of all kinds, by their tags: 0 for the shared one, 1 for the spread one, 2 for the
-- dead one.
use Rattle.std.specs.Prelude.{◌≡◌, ℕ, zero, suc, ◌<◌, ⊤, List, [], ◌∷◌}
use Rattle.std.specs.FinMap as finite
use Rattle.k42_kinds.specs.declared.operation.KindName.{KindName}
use Rattle.k42_kinds.specs.declared.operation.KindName.TheVariants as kinds
use Rattle.k42_kinds.specs.declared.operation.Reply.{Reply}
use Rattle.k42_kinds.specs.declared.operation.Reply.TheVariants.{Gone}
use Rattle.k42_kinds.specs.declared.states.AnyState.{AnyState}
use Rattle.k42_kinds.specs.declared.states.AnyState.TheVariants as states
use Rattle.k42_kinds.specs.declared.operation.Op.{Op}
use Rattle.k42_kinds.specs.declared.entry.Act.{Act}
use Rattle.k42_kinds.specs.declared.entry.Act.TheVariants.{Swap}
use Rattle.k42_kinds.specs.declared.entry.To.{To}
use Rattle.k42_kinds.specs.declared.entry.To.TheVariants as tos
use Rattle.k42_kinds.specs.declared.entry.Reach.TheVariants.{One}
use Rattle.k42_kinds.specs.Objects.{Directory, Pages}
use Rattle.k42_kinds.specs.Rows.{Ways}
use Rattle.co_counter.specs.Counters as counters
use Rattle.co_directory.specs.Directories as directories
use Rattle.co_pages.specs.OneMap as one_map
use Rattle.co_pages.specs.SpreadRows as spread_rows
use Rattle.co_pages.specs.Places.{CellPlaces, no_places}
use Rattle.co_any.specs.declared.part.AnyPart.{AnyPart}
use Rattle.co_any.specs.declared.part.AnyPart.TheVariants as parts
use Rattle.co_any.specs.Lifting.{Standing, lifted, LiftedWhole}

-- the state that an object of another kind does not have is empty
abbrev pub value_in : AnyState → ℕ
value_in (states.Counter value) = value
value_in _ = 0

abbrev pub names_in : AnyState → Directory
names_in (states.Directory names) = names
names_in _ = finite.empty

abbrev pub pages_in : AnyState → Pages
pages_in (states.Pages pages) = pages
pages_in _ = finite.empty

-- and so is the part of another layout
abbrev pub amount_of : AnyPart → ℕ
amount_of (parts.Amount amount) = amount
amount_of _ = 0

abbrev pub indexed_of : AnyPart → Directory
indexed_of (parts.Indexed names) = names
indexed_of _ = finite.empty

abbrev pub copy_of : AnyPart → Directory
copy_of (parts.Copy names) = names
copy_of _ = finite.empty

abbrev pub pages_of : AnyPart → Pages
pages_of (parts.Pages pages) = pages
pages_of _ = finite.empty

abbrev pub places_of : AnyPart → CellPlaces
places_of (parts.Places places) = places
places_of _ = no_places 1 0

abbrev pub amounts : Standing ℕ ℕ
amounts = record { state_of = states.Counter; own_state = value_in; part_of = parts.Amount; own_part = amount_of }

abbrev pub indexed : Standing Directory Directory
indexed = record { state_of = states.Directory; own_state = names_in; part_of = parts.Indexed; own_part = indexed_of }

abbrev pub copies : Standing Directory Directory
copies = record { state_of = states.Directory; own_state = names_in; part_of = parts.Copy; own_part = copy_of }

abbrev pub pages : Standing Pages Pages
pages = record { state_of = states.Pages; own_state = pages_in; part_of = parts.Pages; own_part = pages_of }

abbrev pub places : Standing Pages CellPlaces
places = record { state_of = states.Pages; own_state = pages_in; part_of = parts.Places; own_part = places_of }

-- a dead object has one part with nothing in it
abbrev pub IsDeadRow : ℕ → List AnyPart → Type 0
IsDeadRow procs row = row ≡ parts.Dead ∷ []

-- every operation is told so there
abbrev pub dead : Ways AnyState AnyPart Op Reply
dead = record {
  reach = λ procs op proc. One 0;
  empty = λ procs cell. parts.Dead;
  part_after = λ part op. part;
  part_reply = λ part op. Gone;
  row_after = λ row op. row;
  row_reply = λ row op. Gone;
  combine = λ row. states.Dead;
  imported = λ procs state. parts.Dead ∷ [];
}

abbrev pub ways_of : KindName → ℕ → Ways AnyState AnyPart Op Reply
ways_of kinds.Counter zero = lifted amounts counters.shared
ways_of kinds.Directory zero = lifted indexed directories.shared
ways_of kinds.Pages zero = lifted pages one_map.shared
ways_of kinds.Counter (suc zero) = lifted amounts counters.spread
ways_of kinds.Directory (suc zero) = lifted copies directories.spread
ways_of kinds.Pages (suc zero) = lifted places spread_rows.spread
ways_of kind (suc (suc more)) = dead

abbrev pub whole_of : KindName → ℕ → ℕ → List AnyPart → Type 0
whole_of kinds.Counter zero = LiftedWhole amounts counters.IsOneValue
whole_of kinds.Directory zero = LiftedWhole indexed directories.IsOneMap
whole_of kinds.Pages zero = LiftedWhole pages one_map.IsOneMap
whole_of kinds.Counter (suc zero) = LiftedWhole amounts counters.HasAmounts
whole_of kinds.Directory (suc zero) = LiftedWhole copies directories.AreCopies
whole_of kinds.Pages (suc zero) = LiftedWhole places spread_rows.IsSpread
whole_of kind (suc (suc more)) = IsDeadRow

-- a live object of the kind is in this state
abbrev pub IsAlive : KindName → AnyState → Type 0
IsAlive kinds.Counter (states.Counter value) = counters.IsValue value
IsAlive kinds.Directory (states.Directory names) = Unit {0}
IsAlive kinds.Pages (states.Pages written) = Unit {0}
IsAlive kind state = ⊥

-- the dead layout serves the dead state alone, and the others all but that
abbrev pub serves_of : KindName → ℕ → AnyState → Type 0
serves_of kind (suc (suc more)) state = state ≡ states.Dead
serves_of kind live state = IsAlive kind state

abbrev pub admitted_of : ℕ → AnyState → AnyState
admitted_of (suc (suc more)) state = states.Dead
admitted_of live state = state

abbrev pub act_of : ℕ → Act Op
act_of zero = Swap (tos.Layout 0)
act_of (suc zero) = Swap (tos.Layout 1)
act_of (suc (suc more)) = Swap tos.Dead

-- a swap leads to one of the two, or to the dead one
abbrev pub LeadsAny : To → Type 0
LeadsAny (tos.Layout number) = number < 2
LeadsAny tos.Dead = ⊤
LeadsAny to = ⊥

-- under this tag
abbrev pub tag_to : To → ℕ
tag_to (tos.Layout number) = number
tag_to to = 2
