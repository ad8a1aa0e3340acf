-- Where each joined event is possible.
use Rattle.std.specs.Prelude.{◌≡◌, ℕ, ◌<◌, true, ⊤, IsTrue, List}
use Rattle.k42_kinds.specs.declared.entry.Entry.{Entry}
use Rattle.phase_core.specs.Event as phases
use Rattle.phase_core.specs.Events as phase_events
use Rattle.turn_core.specs.Events as turns
use Rattle.turn_core.specs.declared.event.TurnEvent.{TurnEvent}
use Rattle.turn_core.specs.declared.event.TurnEvent.TheVariants.{Lock, Take, Draw, Alone, Hand, Put, Unlock, Skip}
use Rattle.k42_stamp.specs.Layouts.{Layouts}
use Rattle.k42_joined.specs.Plain.{Joined}
use Rattle.k42_joined.specs.Event.{Event, AtPhases, AtCells, HandWith, caller_of}
use Rattle.k42_joined.specs.Numbers.{object_of, place_of}
use Rattle.k42_joined.specs.State.{many_procs, many_callers, many_objects, cell}
use Rattle.k42_joined.specs.Touching.{may_touch}
use Rattle.k42_joined.specs.Swapping.{may_at_phases}
use Rattle.k42_joined.specs.Drawing.{MayDraw}
use Rattle.k42_joined.specs.Refusals.{MayDrawAlone}
use Rattle.k42_joined.specs.Handing.{MayHand}

-- a cell of a row of an object, which the caller may touch
pub record MayTouch {L O R : Type 0} (s : Joined L O R) (c n : ℕ) : Type 0 where
  pub object : object_of n < many_objects s
  pub place : place_of n < many_procs s
  pub allowed : may_touch s.phases c (object_of n) (cell s n).life ≡ true

module _ {S L P O R : Type 0} (F : Layouts S L P O R) (declared : List L) (s : Joined L O R) where
  pub record MayAtPhases (event : phases.Event) : Type 0 where
    pub objects : phases.NamesObjects (many_objects s) event
    pub core : IsTrue (phase_events.is_possible s.phases event)
    pub beside : may_at_phases s F.tag_of event ≡ true

  -- what an event of cells needs beside; a Hand is `HandWith`, which names its layout
  abbrev pub BesideCells : TurnEvent O R → Type 0
  BesideCells (Lock c n) = MayTouch s c n
  BesideCells (Take c n) = MayTouch s c n
  BesideCells (Put c n) = MayTouch s c n
  BesideCells (Unlock c n) = ⊤
  BesideCells (Skip c stamp) = ⊤
  BesideCells (Draw c cells entry) = MayDraw F declared s c cells entry
  BesideCells (Alone c entry) = MayDrawAlone s c entry
  BesideCells (Hand c from onto entry) = ⊥

  pub record MayAtCells (event : TurnEvent O R) : Type 0 where
    pub core : IsTrue (turns.is_possible s.turns event)
    pub beside : BesideCells event

  pub record MayHandOn (c : ℕ) (from onto : List ℕ) (layout : L) (entry : Entry O R) : Type 0 where
    pub core : IsTrue (turns.is_possible s.turns (Hand c from onto entry))
    pub beside : MayHand F declared s c from onto layout entry

  abbrev pub MayHappen : Event L O R → Type 0
  MayHappen (AtPhases event) = MayAtPhases event
  MayHappen (AtCells event) = MayAtCells event
  MayHappen (HandWith c from onto layout entry) = MayHandOn c from onto layout entry

  -- the event is of a caller that is there
  pub record IsPossible (event : Event L O R) : Type 0 where
    pub caller : caller_of event < many_callers s
    pub may : MayHappen event
