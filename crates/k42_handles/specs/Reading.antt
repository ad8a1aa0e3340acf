-- The history or section in a seat, counted and read.
use Rattle.std.specs.Prelude.{◌≡◌, ℕ, ◌++◌, List, drop, length, map, min, take, Option, Some, None, Result, Ok, Err}
use Rattle.k42_kinds.specs.declared.operation.Op.{Op}
use Rattle.k42_kinds.specs.declared.operation.Reply.{Reply}
use Rattle.k42_kinds.specs.declared.entry.Entry.{Entry}
use Rattle.k42_handles.specs.Plain.{plain_entry}
use Rattle.k42_handles.specs.Seats.{refusal_of}
use Rattle.k42_handles.specs.declared.plain.K42Entry.{K42Entry}
use Rattle.k42_handles.specs.declared.refusal.Refusal.{Refusal}
use Rattle.k42_handles.specs.declared.refusal.Refusal.TheVariants.{Memory}
use Rattle.k42_handles.specs.declared.seat.End.{End}
use Rattle.k42_handles.specs.declared.seat.End.TheVariants.{History, Section}
use Rattle.k42_handles.specs.declared.seat.Seat.{Seat}
use Rattle.k42_handles.specs.declared.seat.Seat.TheVariants.{Ends, Parks}

-- the entries of a history, or of a section
abbrev pub entries_at : End → Option (List (Entry Op Reply))
entries_at (History history) = Some history.entries
entries_at (Section section) = Some section
entries_at _ = None

abbrev pub entries_in : Seat → Option (List (Entry Op Reply))
entries_in (Ends end) = entries_at end.value
entries_in (Parks parks) = entries_at parks.section.value
entries_in _ = None

-- how many there are
abbrev pub count_of : Refusal → Option (List (Entry Op Reply)) → Result ℕ Refusal
count_of why (Some entries) = Ok (length entries)
count_of why None = Err why

abbrev pub HasCounted : Seat → Result ℕ Refusal → Type 0
HasCounted seat told = told ≡ count_of (refusal_of seat) (entries_in seat)

-- The first of these entries were read into the first places, as many as there are of both.
pub record HasRead (entries : List (Entry Op Reply)) (old new : List K42Entry) (count : ℕ) : Type 0 where
  pub count_is : count ≡ min (length old) (length entries)
  pub places : new ≡ map plain_entry (take count entries) ++ drop count old

abbrev pub HasReadIn : Refusal → Option (List (Entry Op Reply)) → ℕ → List K42Entry → List K42Entry → Result ℕ Refusal → Type 0
HasReadIn why (Some entries) from old new (Ok count) = HasRead (drop from entries) old new count
HasReadIn why (Some entries) from old new (Err told) = (told ≡ Memory) × (new ≡ old)
HasReadIn why None from old new told = (told ≡ Err why) × (new ≡ old)

abbrev pub HasReadFrom : Seat → ℕ → List K42Entry → List K42Entry → Result ℕ Refusal → Type 0
HasReadFrom seat from old new told = HasReadIn (refusal_of seat) (entries_in seat) from old new told
