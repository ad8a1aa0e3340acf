-- Lists of events from a state.
use Rattle.std.specs.Prelude.{ℕ, List, ◌++◌, [], ◌∷◌, ◌<◌, true, length, ◌≡◌, IsTrue}
use Rattle.gen_core.specs.declared.event.GenEvent.TheVariants.{Leave}
use Rattle.phase_core.specs.Event.{Event, caller_of, NamesObjects, Turn}
use Rattle.phase_core.specs.Events.{is_possible, happens}
use Rattle.phase_core.specs.Plain.{ObjectPlan, Phases}
use Rattle.phase_core.specs.State.{visitor_at, has_row, new_phases, IsPlan}

-- the state after each of the events in turn
abbrev pub run : List Event → Phases → Phases
run [] s = s
run (event ∷ events) s = run events (happens s event)

-- each event names one of so many callers and objects
abbrev pub AreInRange : ℕ → ℕ → List Event → Type 0
AreInRange callers objects [] = Unit {0}
AreInRange callers objects (event ∷ events) =
    (caller_of event < callers) × NamesObjects objects event × AreInRange callers objects events

-- a list of events leads to s from a new state
pub record IsReached (s : Phases) : Type 0 where
  pub procs : ℕ
  pub plans : List ObjectPlan
  pub callers : List ℕ
  pub events : List Event
  pub plan : IsPlan procs plans callers
  pub in_range : AreInRange (length callers) (length plans) events
  pub result : s ≡ run events (new_phases procs plans callers)

-- the event stands among the events that come from s, and was possible where it stands
pub record Occurs (event : Event) (events : List Event) (s : Phases) : Type 0 where
  pub before : List Event
  pub after : List Event
  pub split : events ≡ before ++ event ∷ after
  pub possible : IsTrue (is_possible (run before s) event)

-- the caller has read a row since it entered
abbrev pub HasRead : Phases → ℕ → ℕ → ℕ → Type 0
HasRead s c o i = has_row (visitor_at s c).read o i ≡ true

abbrev pub HasLeft : Phases → List Event → ℕ → Type 0
HasLeft s events c = Occurs (Turn (Leave c)) events s
