-- Lists of joined events from a state.
use Rattle.std.specs.Prelude.{◌≡◌, ◌⊎◌, ℕ, ◌+◌, ◌<◌, ◌≤◌, List, [], ◌∷◌}
use Rattle.gen_core.specs.declared.event.GenEvent.TheVariants.{Leave}
use Rattle.k42_kinds.specs.declared.entry.Entry.{Entry}
use Rattle.phase_core.specs.Consequences as phases
use Rattle.phase_core.specs.Event.{Turn}
use Rattle.k42_stamp.specs.Layouts.{Layouts}
use Rattle.k42_stamp.specs.Orders.{In}
use Rattle.k42_joined.specs.Plain.{Joined}
use Rattle.k42_joined.specs.Event.{Event, AtPhases, HandWith}
use Rattle.k42_joined.specs.State.{object, incarnation, many_hands}
use Rattle.k42_joined.specs.Possible.{IsPossible}
use Rattle.k42_joined.specs.Effects.{effect}
use Rattle.k42_joined.specs.Fresh.{fresh, IsPlan}

-- the events are possible one after the other, and lead from the one state to the other
abbrev pub Leads : {S L P O R : Type 0} → Layouts S L P O R → List L → List (Event L O R) → Joined L O R → Joined L O R → Type 0
Leads F declared [] s t = t ≡ s
Leads F declared (event ∷ events) s t =
    IsPossible F declared s event × Leads F declared events (effect s event) t

-- a list of events leads to s from a new state
pub record IsReached {S L P O R : Type 0} (F : Layouts S L P O R) (declared : List L) (s : Joined L O R) : Type 0 where
  pub callers : List ℕ
  pub plan : IsPlan F declared callers
  pub events : List (Event L O R)
  pub leads : Leads F declared events (fresh F declared callers) s

-- by the event row i of the object is freed
abbrev pub FreesRow : {L O R : Type 0} → Joined L O R → Event L O R → ℕ → ℕ → Type 0
FreesRow s event o i = phases.FreesRow s.phases (effect s event).phases o i

-- by the event cells of the object begin this life
pub record GivesLife {L O R : Type 0} (s : Joined L O R) (event : Event L O R) (o j : ℕ) : Type 0 where
  pub caller : ℕ
  pub from : List ℕ
  pub onto : List ℕ
  pub layout : L
  pub entry : Entry O R
  pub hand : event ≡ HandWith caller from onto layout entry
  pub object : entry.object ≡ o
  pub life : incarnation s o + 1 ≡ j

-- by the event the row is freed, or its cells are given to the row after the next
abbrev pub TakesRow : {L O R : Type 0} → Joined L O R → Event L O R → ℕ → ℕ → Type 0
TakesRow s event o i = FreesRow s event o i ⊎ GivesLife s event o (i + 2)

-- In the later state nothing is undone: rows that were freed stay so, no event frees one of them again, and
-- none that is possible begins a life again for which a row was handed on.
pub record IsFreedOnce {S L P O R : Type 0} (F : Layouts S L P O R) (declared : List L) (s t : Joined L O R) : Type 0 where
  pub kept : (o : ℕ) → (object s o).freed ≤ (object t o).freed
  pub once : (event : Event L O R) (o i : ℕ) → i < (object s o).freed → ¬ FreesRow t event o i
  pub given :
      (event : Event L O R) (o j : ℕ) → IsPossible F declared t event → j ≤ many_hands s o → ¬ GivesLife t event o j

-- the caller's Leave stands among the events
abbrev pub Leaves : {L O R : Type 0} → ℕ → List (Event L O R) → Type 0
Leaves c events = In (AtPhases (Turn (Leave c))) events
