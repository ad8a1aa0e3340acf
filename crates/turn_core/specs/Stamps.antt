-- The stamp that a draw bears: Lamport's rule, over the drawer's clock and the entries of the cells.
use Rattle.std.specs.Prelude.{ℕ, ◌+◌, ◌-◌, List, [], ◌∷◌, length, max, Option, Some, None, slice_get}
use Rattle.k42_kinds.specs.declared.entry.Entry.{Entry}
use Rattle.turn_core.specs.Plain.{Turns}
use Rattle.turn_core.specs.State.{cell_at, clock_of}

-- the stamp of an entry, 0 where there is none
abbrev pub stamp_of : {O R : Type 0} → Option (Entry O R) → ℕ
stamp_of None = 0
stamp_of (Some entry) = entry.stamp

-- the stamp of the last of these entries
abbrev pub last_stamp : {O R : Type 0} → List (Entry O R) → ℕ
last_stamp entries = stamp_of (slice_get entries (length entries - 1))

-- the greatest last stamp of these cells' histories
abbrev pub last_stamp_at : {O R : Type 0} → Turns O R → List ℕ → ℕ
last_stamp_at s [] = 0
last_stamp_at s (n ∷ cells) = max (last_stamp (cell_at s n).history) (last_stamp_at s cells)

-- one more than the caller's clock, and than the last stamps of the cells
abbrev pub next_stamp : {O R : Type 0} → Turns O R → ℕ → List ℕ → ℕ
next_stamp s c cells = max (clock_of s c) (last_stamp_at s cells) + 1
