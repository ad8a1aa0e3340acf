-- Reading the joined state, and what is kept beside phases and cells.
use Rattle.std.specs.Prelude.{ℕ, Bool, false, nat_lt, List, [], None, length, slice_index_or, slice_set}
use Rattle.k42_kinds.specs.declared.entry.Entry.{Entry}
use Rattle.phase_core.specs.Plain.{Object}
use Rattle.phase_core.specs.State.{object_at, visitor_at}
use Rattle.phase_core.specs.declared.caller.SwapAt.{SwapAt}
use Rattle.turn_core.specs.Plain.{Cell}
use Rattle.turn_core.specs.State as turns
use Rattle.turn_core.specs.Sound.{held_by, drawn_by}
use Rattle.k42_joined.specs.Plain.{Kept, Joined}
use Rattle.k42_joined.specs.Numbers.{cell_of}

-- of a caller that has begun nothing
abbrev pub nothing_kept : {R : Type 0} → Kept R
nothing_kept = record { begun = None; found = None; abandoned = false }

module _ {L O R : Type 0} (s : Joined L O R) where
  abbrev pub many_procs : ℕ
  many_procs = length s.phases.turns.procs

  abbrev pub many_callers : ℕ
  many_callers = length s.phases.callers

  abbrev pub many_objects : ℕ
  many_objects = length s.phases.objects

  abbrev pub object : ℕ → Object
  object o = object_at s.phases o

  abbrev pub incarnation : ℕ → ℕ
  incarnation o = (object_at s.phases o).incarnation

  abbrev pub swap_of : ℕ → SwapAt
  swap_of c = (visitor_at s.phases c).swap

  abbrev pub cell : ℕ → Cell O R
  cell n = turns.cell_at s.turns n

  -- the cell of a row of an object at a place
  abbrev pub cell_in : ℕ → ℕ → ℕ → Cell O R
  cell_in o i p = turns.cell_at s.turns (cell_of o i p)

  abbrev pub held : ℕ → List ℕ
  held c = held_by s.turns.callers c

  -- the entries that a caller has drawn
  abbrev pub mine : ℕ → List (Entry O R)
  mine c = drawn_by s.turns.callers c

  abbrev pub kept_of : ℕ → Kept R
  kept_of c = slice_index_or s.kept c nothing_kept

  abbrev pub layouts_of : ℕ → List L
  layouts_of o = slice_index_or s.hands o []

  -- how many rows of the object were handed on
  abbrev pub many_hands : ℕ → ℕ
  many_hands o = length (layouts_of o)

  -- the row of the incarnation was handed on
  abbrev pub is_handed : ℕ → Bool
  is_handed o = nat_lt (incarnation o) (many_hands o)

  abbrev pub keep : ℕ → Kept R → List (Kept R)
  keep c kept = slice_set s.kept c kept
