-- The numbers that a caller notes as it takes the role.
use Rattle.std.specs.List.{range_with_len, list_all}
use Rattle.std.specs.Prelude.{ℕ, Bool, List, Option, false, ◌==◌, if◌then◌else◌, [], ◌∷◌, None, slice_index_or, count_by, true, nat_lt, nat_le, Some, map}
use Rattle.phase_core.specs.Plain.{Object, Phases}
use Rattle.phase_core.specs.State.{fresh_object, object_at}
use Rattle.phase_core.specs.declared.caller.SwapAt.{SwapAt}
use Rattle.phase_core.specs.declared.caller.SwapAt.TheVariants.{Interposed}

-- the number that the notes, pairs of an object and a number, give an object
abbrev pub note_of : List (ℕ × ℕ) → ℕ → Option ℕ
note_of [] o = None
note_of (note ∷ notes) o = if note.0 == o then Some note.1 else note_of notes o

-- and what they give each of so many objects
abbrev pub numbers_of : List (ℕ × ℕ) → ℕ → List (Option ℕ)
numbers_of notes objects = map (note_of notes) (range_with_len 0 objects)

-- no two notes are of one object

abbrev pub times_named : List (ℕ × ℕ) → ℕ → ℕ
times_named notes o = count_by (λ note. note.0 == o) notes

abbrev pub name_each_once : List (ℕ × ℕ) → Bool
name_each_once notes = list_all (λ note. times_named notes note.0 == 1) notes

-- a note is not above the incarnation, and below it where COMPLETE is set
abbrev pub fits_note : Object → ℕ → Bool
fits_note k n = if k.complete then nat_lt n k.incarnation else nat_le n k.incarnation

abbrev pub fit_notes : List Object → List (ℕ × ℕ) → Bool
fit_notes objects notes = list_all (λ note. fits_note (slice_index_or objects note.0 fresh_object) note.1) notes

abbrev pub is_note : Option ℕ → ℕ → Bool
is_note None n = false
is_note (Some own) n = own == n

-- that of the interposed object is its incarnation
abbrev pub notes_own : Phases → List (ℕ × ℕ) → SwapAt → Bool
notes_own s notes (Interposed o) = is_note (note_of notes o) (object_at s o).incarnation
notes_own s notes swap = true
