-- Lists of events from a state, and the grace that one of its callers has among them.
use Rattle.std.specs.Prelude.{ℕ, ◌≡◌, ◌<◌, List, [], ◌∷◌, ◌++◌, None, length, IsTrue, IsSome}
use Rattle.gen_core.specs.declared.event.GenEvent.{GenEvent}
use Rattle.gen_core.specs.declared.event.GenEvent.TheVariants.{Leave, TakeRole, GiveRole}
use Rattle.gen_core.specs.declared.state.GraceAt.TheVariants.{Quiet}
use Rattle.gen_core.specs.Plain.{Generations}
use Rattle.gen_core.specs.State.{caller_at, fresh, IsPlan}
use Rattle.gen_core.specs.Events.{is_possible, happens, caller_of}

-- the state after each of the events in turn
abbrev pub run : List GenEvent → Generations → Generations
run [] s = s
run (event ∷ events) s = run events (happens s event)

-- each event names one of so many callers
abbrev pub AreInRange : ℕ → List GenEvent → Type 0
AreInRange callers [] = Unit {0}
AreInRange callers (event ∷ events) = (caller_of event < callers) × AreInRange callers events

-- a list of events leads to s from a new state
pub record IsReached (s : Generations) : Type 0 where
  pub procs : ℕ
  pub callers : List ℕ
  pub events : List GenEvent
  pub plan : IsPlan procs callers
  pub in_range : AreInRange (length callers) events
  pub result : s ≡ run events (fresh procs callers)

-- the event stands among the events that come from s, and was possible where it stands
pub record Occurs (event : GenEvent) (events : List GenEvent) (s : Generations) : Type 0 where
  pub before : List GenEvent
  pub after : List GenEvent
  pub split : events ≡ before ++ event ∷ after
  pub possible : IsTrue (is_possible (run before s) event)

-- the caller may take the role, and finds it free
pub record FindsRoleFree (s : Generations) (c : ℕ) : Type 0 where
  pub possible : IsTrue (is_possible s (TakeRole c))
  pub free : s.role ≡ None

abbrev pub IsActive : Generations → ℕ → Type 0
IsActive s c = IsSome (caller_at s c).active

abbrev pub IsQuiet : Generations → ℕ → Type 0
IsQuiet s c = (caller_at s c).grace ≡ Quiet

-- at s the holder takes the role, does not give it back by the events that follow, and is quiet after them
pub record IsQuietGrace (s : Generations) (events : List GenEvent) (holder : ℕ) : Type 0 where
  pub takes : FindsRoleFree s holder
  pub keeps : ¬ Occurs (GiveRole holder) events (happens s (TakeRole holder))
  pub quiet : IsQuiet (run events (happens s (TakeRole holder))) holder

-- the caller leaves among the events that follow the taking of the role
abbrev pub HasLeft : Generations → List GenEvent → ℕ → ℕ → Type 0
HasLeft s events holder caller = Occurs (Leave caller) events (happens s (TakeRole holder))
