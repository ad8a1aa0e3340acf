-- Each possible event keeps every fact.
use Rattle.std.proofs.Common.{◌≡◌, ℕ, ◌<◌, ◌∙◌, Bool, true, List, [], ◌∷◌, ◌++◌, length, refl, ap, arith}
use Rattle.std.specs.List.{list_all, AllByRecursion}
use Rattle.std.proofs.lemmas.Bool.{and_parts}
use Rattle.std.proofs.lemmas.List.Elements.{All-from_recursion}
use Rattle.k42_kinds.specs.Histories.{is_call}
use Rattle.k42_kinds.specs.declared.entry.Entry.{Entry}
use Rattle.phase_core.specs.Event as phase_events
use Rattle.phase_core.proofs.Kept.{event_keeps}
use Rattle.phase_core.proofs.Reached.{turn_there}
use Rattle.turn_core.specs.declared.event.TurnEvent.{TurnEvent}
use Rattle.turn_core.specs.declared.event.TurnEvent.TheVariants.{Lock, Take, Draw, Alone, Hand, Put, Unlock, Skip}
use Rattle.turn_core.specs.Events as turn_events
use Rattle.turn_core.specs.Events.{is_caller, holds, has_taken, has_open, has_beginning, is_next}
use Rattle.turn_core.specs.Plain.{Turns}
use Rattle.turn_core.specs.Sound as turns
use Rattle.turn_core.specs.State.{cell_at}
use Rattle.turn_core.proofs.Drawing.{next_parts}
use Rattle.turn_core.proofs.Kept.{keeps_effect}
use Rattle.k42_stamp.specs.Laws.{AreLaws}
use Rattle.k42_stamp.specs.Layouts.{Layouts}
use Rattle.k42_joined.specs.Plain.{Joined}
use Rattle.k42_joined.specs.Event.{Event, AtPhases, AtCells, HandWith}
use Rattle.k42_joined.specs.Effects.{effect}
use Rattle.k42_joined.specs.Possible.{MayTouch, MayAtPhases, MayAtCells, MayHandOn, IsPossible}
use Rattle.k42_joined.specs.Sound.{IsSound}
use Rattle.k42_joined.specs.State.{many_callers, cell}
use Rattle.k42_joined.proofs.AnswersCells.{draw_keeps_answers}
use Rattle.k42_joined.proofs.AnswersDraws.{alone_answers, hand_answers}
use Rattle.k42_joined.proofs.AnswersPhases.{phases_keep_answers}
use Rattle.k42_joined.proofs.AnswersTouch.{touch_answers}
use Rattle.k42_joined.proofs.LocksCells.{lock_keeps, take_keeps, put_keeps, unlock_keeps, skip_keeps, alone_keeps, draw_keeps}
use Rattle.k42_joined.proofs.LocksHand.{core_hand, from_is_caller, hand_keeps}
use Rattle.k42_joined.proofs.LocksPhases.{phases_keep_locks, held_there}
use Rattle.k42_joined.proofs.RowsCalls.{draw_drawn}
use Rattle.k42_joined.proofs.RowsCells.{lock_keeps_rows, take_keeps_rows, put_keeps_rows, unlock_keeps_rows, skip_keeps_rows, alone_keeps_rows}
use Rattle.k42_joined.proofs.RowsDraw.{core_draw}
use Rattle.k42_joined.proofs.RowsHand.{hand_keeps_rows, named}
use Rattle.k42_joined.proofs.RowsPhases.{phases_keep_rows}

-- cells that the caller holds are there

held_all : {O R : Type 0} (s : Turns O R) (c : ℕ) (test : ℕ → Bool) → ((n : ℕ) → test n ≡ true → holds s c n ≡ true) → (cells : List ℕ) → list_all test cells ≡ true
    → AllByRecursion (λ n. n < length s.cells) cells
held_all s c test held [] all = tt
held_all s c test held (n ∷ cells) all =
    let parts = and_parts (test n) (list_all test cells) all in
    (held_there s n c (from_is_caller (cell_at s n).lock c (held n parts.0)), held_all s c test held cells parts.1)

open_held : {O R : Type 0} (s : Turns O R) (c n : ℕ) → has_open s c n ≡ true → holds s c n ≡ true
open_held s c n is = (and_parts (holds s c n) _ (and_parts (has_taken s c n) _ is).0).0

begin_held : {O R : Type 0} (s : Turns O R) (c n : ℕ) → has_beginning s c n ≡ true → holds s c n ≡ true
begin_held s c n is = (and_parts (holds s c n) _ (and_parts (has_taken s c n) _ is).0).0

all_more : (P : ℕ → Type 0) (xs ys : List ℕ) → AllByRecursion P xs → AllByRecursion P ys → AllByRecursion P (xs ++ ys)
all_more P [] ys left right = right
all_more P (x ∷ xs) ys left right = (left.0, all_more P xs ys left.1 right)

module _ {S L P O R : Type 0} (F : Layouts S L P O R) (laws : AreLaws F) (declared : List L) (s : Joined L O R) (sound : IsSound F declared s) where
  -- an event of tables and swaps
  phases_keep : (event : phase_events.Event) → phase_events.caller_of event < many_callers s → MayAtPhases F declared s event
      → IsSound F declared (effect s (AtPhases event))
  phases_keep event there may = record {
    phases = event_keeps s.phases event sound.phases (turn_there s.phases sound.phases (phase_events.caller_of event) there) may.objects may.core;
    cells = record {
      turns = sound.cells.turns;
      locks = phases_keep_locks F declared s sound.phases sound.cells.turns sound.cells.locks event there may;
      rows = phases_keep_rows F declared s sound.phases sound.cells.turns sound.cells.locks sound.cells.rows event there may;
    };
    answers = phases_keep_answers F laws declared s sound.phases sound.cells.turns sound.cells.locks sound.cells.rows sound.answers event there may;
  }

  turns_keep : (event : TurnEvent O R) → turn_events.caller_of event < many_callers s → AllByRecursion (λ n. n < length s.turns.cells) (turn_events.cells_of event)
      → turn_events.is_possible s.turns event ≡ true → turns.IsSound (turn_events.effect s.turns event)
  turns_keep event there range possible =
      keeps_effect s.turns event sound.cells.turns
      (record { caller = rw sound.cells.locks.many.callers there; cells = All-from_recursion (λ n. n < length s.turns.cells) (turn_events.cells_of event) range })
      possible

  touched_there : (c n : ℕ) → MayTouch s c n → n < length s.turns.cells
  touched_there c n may =
      let object = may.object in
      let long = sound.cells.locks.many.cells in
      omega (arith, object, long)

  -- an event of cells
  cells_keep : (event : TurnEvent O R) → turn_events.caller_of event < many_callers s → MayAtCells F declared s event
      → IsSound F declared (effect s (AtCells event))
  cells_keep (Lock c n) there may =
      let in_range = touched_there c n may.beside in
      record {
        phases = sound.phases;
        cells = record {
          turns = turns_keep (Lock c n) there (in_range, tt) may.core;
          locks = lock_keeps s sound.cells.locks c n in_range may.beside;
          rows = lock_keeps_rows F declared s sound.cells.rows c n;
        };
        answers = touch_answers s sound.answers (Lock c n) refl;
      }
  cells_keep (Take c n) there may =
      let in_range = touched_there c n may.beside in
      record {
        phases = sound.phases;
        cells = record {
          turns = turns_keep (Take c n) there (in_range, tt) may.core;
          locks = take_keeps s sound.cells.locks c n;
          rows = take_keeps_rows F declared s sound.cells.rows c n;
        };
        answers = touch_answers s sound.answers (Take c n) refl;
      }
  cells_keep (Put c n) there may =
      let in_range = touched_there c n may.beside in
      record {
        phases = sound.phases;
        cells = record {
          turns = turns_keep (Put c n) there (in_range, tt) may.core;
          locks = put_keeps s sound.cells.locks c n;
          rows = put_keeps_rows F declared s sound.cells.rows c n;
        };
        answers = touch_answers s sound.answers (Put c n) refl;
      }
  cells_keep (Unlock c n) there may =
      let held = (and_parts (holds s.turns c n) _ may.core).0 in
      let in_range = held_there s.turns n c (from_is_caller (cell s n).lock c held) in
      record {
        phases = sound.phases;
        cells = record {
          turns = turns_keep (Unlock c n) there (in_range, tt) may.core;
          locks = unlock_keeps s sound.cells.locks c n in_range;
          rows = unlock_keeps_rows F declared s sound.cells.rows c n;
        };
        answers = touch_answers s sound.answers (Unlock c n) refl;
      }
  cells_keep (Skip c stamp) there may = record {
    phases = sound.phases;
    cells = record {
      turns = turns_keep (Skip c stamp) there tt may.core;
      locks = skip_keeps s sound.cells.locks c stamp;
      rows = skip_keeps_rows F declared s sound.cells.rows c stamp;
    };
    answers = touch_answers s sound.answers (Skip c stamp) refl;
  }
  cells_keep (Draw c cells e) there may =
      let core = core_draw s.turns c cells e may.core in
      let drawn = draw_drawn F laws declared s sound.phases sound.cells.turns sound.cells.locks sound.cells.rows sound.answers c cells e there core may.beside in
      record {
        phases = sound.phases;
        cells = record {
          turns = turns_keep (Draw c cells e) there (held_all s.turns c (has_open s.turns c) (open_held s.turns c) cells core.opened) may.core;
          locks = draw_keeps s sound.cells.locks c e.object cells e drawn.of_row;
          rows = drawn.rows;
        };
        answers = draw_keeps_answers F laws declared s sound.phases sound.cells.turns sound.cells.locks sound.cells.rows sound.answers c cells e there core drawn may.beside;
      }
  cells_keep (Alone c e) there may =
      let next = next_parts s.turns c [] e may.core in
      record {
        phases = sound.phases;
        cells = record {
          turns = turns_keep (Alone c e) there tt may.core;
          locks = alone_keeps s sound.cells.locks c e _;
          rows = alone_keeps_rows F declared s sound.cells.rows c e _ (rw sound.cells.locks.many.callers there) may.beside;
        };
        answers = alone_answers s sound.cells.locks sound.answers c there e sound.phases next.caller may.beside;
      }
  cells_keep (Hand c from onto e) there may = absurd may.beside

  -- a hand
  hand_keep : (c : ℕ) (from onto : List ℕ) (layout : L) (e : Entry O R) → c < many_callers s → MayHandOn F declared s c from onto layout e
      → IsSound F declared (effect s (HandWith c from onto layout e))
  hand_keep c from onto layout e there may =
      let core = core_hand s.turns c from onto e may.core in
      let inside = named F laws declared s sound.phases sound.cells.turns sound.cells.locks sound.cells.rows c from onto layout e there may in
      record {
        phases = sound.phases;
        cells = record {
          turns = turns_keep (Hand c from onto e) there
              (all_more (λ n. n < length s.turns.cells) from onto
              (held_all s.turns c (has_open s.turns c) (open_held s.turns c) from core.open_from)
              (held_all s.turns c (has_beginning s.turns c) (begin_held s.turns c) onto core.begin_onto)) may.core;
          locks = hand_keeps F declared s sound.cells.locks c from onto layout e may inside;
          rows = hand_keeps_rows F laws declared s sound.phases sound.cells.turns sound.cells.locks sound.cells.rows c from onto layout e there may;
        };
        answers = hand_answers s sound.cells.locks sound.answers c there e sound.phases from onto layout
            (ap is_call may.beside.act ∙ laws.asks layout) inside may.beside.moved may.beside.present may.beside.answer;
      }

  pub joined_keeps : (event : Event L O R) → IsPossible F declared s event → IsSound F declared (effect s event)
  joined_keeps (AtPhases event) possible = phases_keep event possible.caller possible.may
  joined_keeps (AtCells event) possible = cells_keep event possible.caller possible.may
  joined_keeps (HandWith c from onto layout e) possible = hand_keep c from onto layout e possible.caller possible.may
