-- Lists of events from a state, and what is true after each.
use Rattle.std.specs.Prelude.{ℕ, ◌≡◌, ◌<◌, if◌then◌else◌, List, [], ◌∷◌, length, All, Some, slice_get}
use Rattle.k42_kinds.specs.declared.entry.Entry.{Entry}
use Rattle.turn_core.specs.declared.event.TurnEvent.{TurnEvent}
use Rattle.turn_core.specs.Plain.{Turns}
use Rattle.turn_core.specs.State.{fresh, cell_at}
use Rattle.turn_core.specs.Events.{caller_of, cells_of, is_possible, effect}
use Rattle.turn_core.specs.Sound.{drawn_by, histories_of}

-- the state after an event; one that is not possible changes nothing
abbrev pub happens : {O R : Type 0} → Turns O R → TurnEvent O R → Turns O R
happens s event = if is_possible s event then effect s event else s

-- the state after each of the events in turn
abbrev pub run : {O R : Type 0} → List (TurnEvent O R) → Turns O R → Turns O R
run [] s = s
run (event ∷ events) s = run events (happens s event)

-- the event's caller and its cells are among so many
pub record NamesThose {O R : Type 0} (cells callers : ℕ) (event : TurnEvent O R) : Type 0 where
  pub caller : caller_of event < callers
  pub cell : All (λ n. n < cells) (cells_of event)

abbrev pub AreInRange : {O R : Type 0} → ℕ → ℕ → List (TurnEvent O R) → Type 0
AreInRange cells callers [] = Unit {0}
AreInRange cells callers (event ∷ events) = NamesThose cells callers event × AreInRange cells callers events

-- a list of events leads to s from a new state
pub record IsReached {O R : Type 0} (s : Turns O R) : Type 0 where
  pub lives : List ℕ
  pub callers : ℕ
  pub events : List (TurnEvent O R)
  pub in_range : AreInRange (length lives) callers events
  pub result : s ≡ run events (fresh lives callers)

-- the history of a cell in this life, counted from its first
abbrev pub IsHistoryOf : {O R : Type 0} → Turns O R → ℕ → ℕ → List (Entry O R) → Type 0
IsHistoryOf s n life history = slice_get (histories_of (cell_at s n)) life ≡ Some history

-- entry number n of a caller's list has that caller and the index n
abbrev pub NumbersItsEntries : {O R : Type 0} → Turns O R → Type 0
NumbersItsEntries {O} {R} s =
    (c n : ℕ) (entry : Entry O R) → slice_get (drawn_by s.callers c) n ≡ Some entry
    → (entry.caller ≡ c) × (entry.index ≡ n)

-- the entry stands at this place of this caller's list
abbrev pub StandsAt : {O R : Type 0} → Turns O R → Entry O R → ℕ → ℕ → Type 0
StandsAt s entry c n = slice_get (drawn_by s.callers c) n ≡ Some entry

-- in exactly one place of the callers' lists
pub record StandsOnce {O R : Type 0} (s : Turns O R) (entry : Entry O R) : Type 0 where
  pub caller : ℕ
  pub index : ℕ
  pub there : StandsAt s entry caller index
  pub only : (c n : ℕ) → StandsAt s entry c n → (c ≡ caller) × (n ≡ index)
