-- The events, with plain lists.
use Rattle.std.specs.List.{All}
use Rattle.std.specs.Prelude.{ℕ, List, ◌<◌}
use Rattle.gen_core.specs.Events as turns
use Rattle.gen_core.specs.declared.event.GenEvent.{GenEvent}
use Rattle.phase_core.specs.declared.event.PhaseEvent as code
use Rattle.phase_core.specs.declared.event.PhaseEvent.TheVariants as code_events

-- what a caller, named by its number, may do next; the taking of the role is `TakeRoleWith`
pub data Event : Type 0 where
  Turn : GenEvent → Event
  TakeRoleWith : ℕ → List (ℕ × ℕ) → Event
  LookUp : ℕ → ℕ → Event
  RootLoad : ℕ → ℕ → Event
  Install : ℕ → ℕ → Event
  Knock : ℕ → ℕ → Event
  StepOut : ℕ → Event
  EndCall : ℕ → Event
  Begin : ℕ → ℕ → Event
  Interpose : ℕ → Event
  Block : ℕ → Event
  Move : ℕ → Event
  TurnOver : ℕ → ℕ → Event
  Unblock : ℕ → Event
  Open : ℕ → Event
  Clear : ℕ → Event
  Free : ℕ → ℕ → Event

-- an event of the code, as contracts see it
abbrev pub event_seen : code.PhaseEvent → Event
event_seen (code_events.Turn event) = Turn event
event_seen (code_events.TakeRole c notes) = TakeRoleWith c notes.items
event_seen (code_events.LookUp c o) = LookUp c o
event_seen (code_events.RootLoad c o) = RootLoad c o
event_seen (code_events.Install c o) = Install c o
event_seen (code_events.Knock c o) = Knock c o
event_seen (code_events.Begin c o) = Begin c o
event_seen (code_events.TurnOver c o) = TurnOver c o
event_seen (code_events.Free c o) = Free c o
event_seen (code_events.StepOut c) = StepOut c
event_seen (code_events.EndCall c) = EndCall c
event_seen (code_events.Interpose c) = Interpose c
event_seen (code_events.Block c) = Block c
event_seen (code_events.Move c) = Move c
event_seen (code_events.Unblock c) = Unblock c
event_seen (code_events.Open c) = Open c
event_seen (code_events.Clear c) = Clear c

-- the caller of an event
abbrev pub caller_of : Event → ℕ
caller_of (Turn event) = turns.caller_of event
caller_of (TakeRoleWith c notes) = c
caller_of (LookUp c o) = c
caller_of (RootLoad c o) = c
caller_of (Install c o) = c
caller_of (Knock c o) = c
caller_of (StepOut c) = c
caller_of (EndCall c) = c
caller_of (Begin c o) = c
caller_of (Interpose c) = c
caller_of (Block c) = c
caller_of (Move c) = c
caller_of (TurnOver c layout) = c
caller_of (Unblock c) = c
caller_of (Open c) = c
caller_of (Clear c) = c
caller_of (Free c o) = c

-- the objects that an event names are of so many
abbrev pub NamesObjects : ℕ → Event → Type 0
NamesObjects objects (TakeRoleWith c notes) = All (λ note. note.0 < objects) notes
NamesObjects objects (LookUp c o) = o < objects
NamesObjects objects (RootLoad c o) = o < objects
NamesObjects objects (Install c o) = o < objects
NamesObjects objects (Knock c o) = o < objects
NamesObjects objects (Begin c o) = o < objects
NamesObjects objects (Free c o) = o < objects
NamesObjects objects event = Unit {0}
