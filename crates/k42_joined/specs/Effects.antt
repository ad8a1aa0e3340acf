-- What each joined event does.
use Rattle.std.specs.Prelude.{ℕ, Bool, false, ◌||◌, List, ◌∷◌, None, slice_set}
use Rattle.phase_core.specs.Events as phases
use Rattle.turn_core.specs.Events as turns
use Rattle.turn_core.specs.declared.event.TurnEvent.{TurnEvent}
use Rattle.turn_core.specs.declared.event.TurnEvent.TheVariants.{Draw, Alone, Hand}
use Rattle.k42_joined.specs.Plain.{Kept, Joined}
use Rattle.k42_joined.specs.Event.{Event, AtPhases, AtCells, HandWith}
use Rattle.k42_joined.specs.State.{kept_of, keep, layouts_of}
use Rattle.k42_joined.specs.Swapping.{kept_after_phases}
use Rattle.k42_joined.specs.Refusals.{tells_abandoned}

module _ {L O R : Type 0} (s : Joined L O R) where
  -- a caller that draws an entry forgets what its last Begin found, and may have abandoned its swap by it
  abbrev pub kept_drawn : ℕ → Bool → List (Kept R)
  kept_drawn c abandons =
      keep s c (record (kept_of s c) { found = None; abandoned = abandons || (kept_of s c).abandoned })

  abbrev pub kept_after_cells : TurnEvent O R → List (Kept R)
  kept_after_cells (Draw c cells entry) = kept_drawn c false
  kept_after_cells (Alone c entry) = kept_drawn c (tells_abandoned entry.answer)
  kept_after_cells event = s.kept

  abbrev pub hands_with : ℕ → L → List (List L)
  hands_with o layout = slice_set s.hands o (layout ∷ layouts_of s o)

  abbrev pub effect : Event L O R → Joined L O R
  effect (AtPhases event) =
      record s { phases = phases.effect s.phases event; kept = kept_after_phases s event }
  effect (AtCells event) = record s { turns = turns.effect s.turns event; kept = kept_after_cells event }
  effect (HandWith c from onto layout entry) = record s {
    turns = turns.effect s.turns (Hand c from onto entry);
    hands = hands_with entry.object layout;
    kept = kept_drawn c false;
  }
