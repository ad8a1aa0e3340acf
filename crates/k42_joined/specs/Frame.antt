-- What an event leaves alone, by caller, by cell and by object.
use Rattle.std.specs.Prelude.{◌≡◌, ◌≢◌, ℕ, false, List, [], ◌++◌, Option, Some, None}
use Rattle.gen_core.specs.State as generations
use Rattle.phase_core.specs.Consequences.{object_changed}
use Rattle.phase_core.specs.State.{visitor_at}
use Rattle.turn_core.specs.Events as turns
use Rattle.turn_core.specs.Names.{names}
use Rattle.turn_core.specs.State as cells
use Rattle.k42_joined.specs.Plain.{Joined}
use Rattle.k42_joined.specs.Event.{Event, AtPhases, AtCells, HandWith}
use Rattle.k42_joined.specs.State.{object, cell, kept_of, layouts_of}

-- the cells that an event names
abbrev pub cells_of : {L O R : Type 0} → Event L O R → List ℕ
cells_of (AtPhases event) = []
cells_of (AtCells event) = turns.cells_of event
cells_of (HandWith c from onto layout entry) = from ++ onto

-- the object that it may change
abbrev pub object_of : {L O R : Type 0} → Joined L O R → Event L O R → Option ℕ
object_of s (AtPhases event) = object_changed s.phases event
object_of s (AtCells event) = None
object_of s (HandWith c from onto layout entry) = Some entry.object

-- but for one caller, some cells and one object at most, the states are the same
pub record LeavesOthers {L O R : Type 0} (s t : Joined L O R) (caller : ℕ) (named : List ℕ) (changed : Option ℕ) : Type 0 where
  pub visitors : (c : ℕ) → c ≢ caller → visitor_at t.phases c ≡ visitor_at s.phases c
  pub activities :
      (c : ℕ) → c ≢ caller
      → generations.caller_at t.phases.turns c ≡ generations.caller_at s.phases.turns c
  pub lists : (c : ℕ) → c ≢ caller → cells.caller_at t.turns c ≡ cells.caller_at s.turns c
  pub kept : (c : ℕ) → c ≢ caller → kept_of t c ≡ kept_of s c
  pub cells : (n : ℕ) → names named n ≡ false → cell t n ≡ cell s n
  pub objects : (o : ℕ) → changed ≢ Some o → object t o ≡ object s o
  pub layouts : (o : ℕ) → changed ≢ Some o → layouts_of t o ≡ layouts_of s o
