-- An event leaves all callers but its own, all cells that it does not name, and all objects but one.
use Rattle.std.proofs.Common.{◌≡◌, ◌≢◌, ℕ, ◌∙◌, true, false, List, [], Some, get_or, refl, sym, ap, subst}
use Rattle.std.proofs.lemmas.List.{get_or-set_other}
use Rattle.phase_core.specs.Consequences as phases
use Rattle.phase_core.specs.Event as phase_events
use Rattle.phase_core.specs.Event.{Begin, Unblock}
use Rattle.phase_core.specs.Sound as phases_sound
use Rattle.phase_core.proofs.Others.{others_stay}
use Rattle.phase_core.proofs.Reached.{turn_there}
use Rattle.turn_core.specs.declared.event.TurnEvent.{TurnEvent}
use Rattle.turn_core.specs.declared.event.TurnEvent.TheVariants.{Draw, Alone, Hand}
use Rattle.turn_core.specs.Events as turns
use Rattle.turn_core.specs.Names.{names}
use Rattle.turn_core.specs.Plain.{Turns}
use Rattle.turn_core.specs.Runs.{happens}
use Rattle.turn_core.specs.State as cells
use Rattle.turn_core.proofs.Alone.{caller-happens, cell-happens}
use Rattle.k42_stamp.specs.Layouts.{Layouts}
use Rattle.k42_joined.specs.Plain.{Joined}
use Rattle.k42_joined.specs.Event.{Event, AtPhases, AtCells, HandWith, caller_of}
use Rattle.k42_joined.specs.Effects.{effect, kept_after_cells}
use Rattle.k42_joined.specs.Frame.{cells_of, object_of, LeavesOthers}
use Rattle.k42_joined.specs.Possible.{IsPossible}
use Rattle.k42_joined.specs.State.{nothing_kept, kept_of}
use Rattle.k42_joined.specs.Swapping.{kept_after_phases}
use Rattle.k42_joined.proofs.PhaseSteps.{happened}

turned : {O R : Type 0} (s : Turns O R) (event : TurnEvent O R) → turns.is_possible s event ≡ true → happens s event ≡ turns.effect s event
turned s event possible = rw possible refl

module _ {S L P O R : Type 0} (F : Layouts S L P O R) (declared : List L) (s : Joined L O R) (sound : phases_sound.IsSound s.phases) where
  kept_swap : (event : phase_events.Event) (d : ℕ) → d ≢ phase_events.caller_of event → get_or (kept_after_phases s event) d nothing_kept ≡ kept_of s d
  kept_swap (Begin c o) d other = get_or-set_other s.kept c d _ nothing_kept other
  kept_swap (Unblock c) d other = get_or-set_other s.kept c d _ nothing_kept other
  kept_swap event d other = refl

  kept_turn : (event : TurnEvent O R) (d : ℕ) → d ≢ turns.caller_of event → get_or (kept_after_cells s event) d nothing_kept ≡ kept_of s d
  kept_turn (Draw c ns entry) d other = get_or-set_other s.kept c d _ nothing_kept other
  kept_turn (Alone c entry) d other = get_or-set_other s.kept c d _ nothing_kept other
  kept_turn event d other = refl

  lists_same : (event : TurnEvent O R) → turns.is_possible s.turns event ≡ true → (d : ℕ) → d ≢ turns.caller_of event
      → cells.caller_at (turns.effect s.turns event) d ≡ cells.caller_at s.turns d
  lists_same event possible d other =
      ap (λ t. cells.caller_at t d) (sym (turned s.turns event possible)) ∙ caller-happens s.turns event d other

  cells_same : (event : TurnEvent O R) → turns.is_possible s.turns event ≡ true → (n : ℕ) → names (turns.cells_of event) n ≡ false
      → cells.cell_at (turns.effect s.turns event) n ≡ cells.cell_at s.turns n
  cells_same event possible n unnamed =
      ap (λ t. cells.cell_at t n) (sym (turned s.turns event possible)) ∙ cell-happens s.turns event n unnamed

  pub leaves_others : (event : Event L O R) → IsPossible F declared s event → LeavesOthers s (effect s event) (caller_of event) (cells_of event) (object_of s event)
  leaves_others (AtPhases event) possible =
      let left = subst (λ t. phases.LeavesOthers s.phases t (phase_events.caller_of event) (phases.object_changed s.phases event)) (happened s.phases event possible.may.core)
      (others_stay s.phases event sound (turn_there s.phases sound (phase_events.caller_of event) possible.caller)) in
      record {
        visitors = left.other_callers;
        activities = left.other_turns;
        lists = λ c other. refl;
        kept = λ c other. kept_swap event c other;
        cells = λ n unnamed. refl;
        objects = left.other_objects;
        layouts = λ o other. refl;
      }
  leaves_others (AtCells event) possible = record {
    visitors = λ c other. refl;
    activities = λ c other. refl;
    lists = λ c other. lists_same event possible.may.core c other;
    kept = λ c other. kept_turn event c other;
    cells = λ n unnamed. cells_same event possible.may.core n unnamed;
    objects = λ o other. refl;
    layouts = λ o other. refl;
  }
  leaves_others (HandWith c from onto layout e) possible = record {
    visitors = λ d other. refl;
    activities = λ d other. refl;
    lists = λ d other. lists_same (Hand c from onto e) possible.may.core d other;
    kept = λ d other. get_or-set_other s.kept c d _ nothing_kept other;
    cells = λ n unnamed. cells_same (Hand c from onto e) possible.may.core n unnamed;
    objects = λ o other. refl;
    layouts = λ o other. get_or-set_other s.hands e.object o _ [] (λ same. other (ap Some (sym same)));
  }
