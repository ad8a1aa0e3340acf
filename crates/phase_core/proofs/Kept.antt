-- Each possible event keeps every fact.
use Rattle.std.proofs.Common.{◌≡◌, ℕ, ◌+◌, ◌<◌, ◌≤◌, ◌∙◌, Bool, true, false, cond, ltb, eqb, List, Option, Some, None, length, set, sym, refl, ap, eq-eqb}
use Rattle.std.specs.List.{slice_get}
use Rattle.std.specs.Option.{is_some, unwrap_or}
use Rattle.std.proofs.lemmas.List.{get_or-set_same}
use Rattle.std.proofs.lemmas.Option.{slice_get-get_or}
use Rattle.std.proofs.lemmas.Bool.{and_parts, eqb-true, leb-true, ltb-true, ne_eqb}
use Rattle.gen_core.specs.declared.event.GenEvent.{GenEvent}
use Rattle.gen_core.specs.declared.event.GenEvent.TheVariants.{Enter, Leave, TakeRole, LookAhead, Flip, Look, GiveRole}
use Rattle.gen_core.specs.declared.state.GraceAt.TheVariants as graces
use Rattle.gen_core.specs.Plain.{Caller, Generations}
use Rattle.gen_core.specs.State.{caller_at, put_caller}
use Rattle.gen_core.specs.Events as turns
use Rattle.gen_core.specs.Sound.{IsInCourse}
use Rattle.k42_places.proofs.Written.{slice_get-set_here, slice_get-set_else}
use Rattle.gen_core.proofs.Stages.{from_is_idle, from_is_looking, from_is_quiet, from_is_none, from_is_some}
use Rattle.gen_core.proofs.Frames.{with_grace, steered}
use Rattle.gen_core.proofs.Courses.{at_turn}
use Rattle.gen_core.proofs.Graces as gen
use Rattle.phase_core.specs.declared.caller.Place.{Place}
use Rattle.phase_core.specs.declared.caller.Place.TheVariants.{Out, Missed, Direct, AtMediator, Tracked, Blocked}
use Rattle.phase_core.specs.declared.caller.SwapAt.{SwapAt}
use Rattle.phase_core.specs.declared.caller.SwapAt.TheVariants.{Idle, Refused, Begun, Interposing, Drained, Blocking, Moved, Opening, Reopening, Opened}
use Rattle.phase_core.specs.Callers.{IsVisitor}
use Rattle.phase_core.specs.Effects.{at_place, at_stage, begun_as, is_over, is_empty_at, direct_entry, counted_out, drained_at, cleared, unblocked, turned_over}
use Rattle.phase_core.specs.Event.{Event, Turn, TakeRoleWith, LookUp, RootLoad, Install, Knock, StepOut, EndCall, Begin, Interpose, Block, Move, TurnOver, Unblock, Open, Clear, Free, caller_of, NamesObjects}
use Rattle.phase_core.specs.Events.{turned, taken_with, begun, interposed, moved, opened, freed_to, staged, may_turn, is_possible, effect}
use Rattle.phase_core.specs.Notes.{numbers_of, name_each_once, fit_notes}
use Rattle.phase_core.specs.Outlooks.{Scene}
use Rattle.phase_core.specs.Plain.{Visitor, Phases}
use Rattle.phase_core.specs.Sound.{IsInScene, IsSound}
use Rattle.phase_core.specs.Stages.{is_out, is_missed, is_at_mediator, is_counted, is_uncounted, object_of, row_of, object_named, named_by, may_take, is_idle, is_interposing, is_drained, is_blocking, is_moved, is_opening, is_ended}
use Rattle.phase_core.specs.State.{empty_entry, fresh_object, fresh_visitor, object_at, visitor_at, entry_at, proc_of, put_object, put_visitor, put_entry, note_at}
use Rattle.phase_core.proofs.Visits.{keeps_looked_up, keeps_installed, keeps_knocked, keeps_stepped_out, keeps_out}
use Rattle.phase_core.proofs.Swappers.{keeps_blocked, keeps_moved, keeps_turned_over}
use Rattle.phase_core.proofs.Graces.{at_g, known, keeps_enter, keeps_leave, keeps_looked_ahead, keeps_flip, looked_on}
use Rattle.phase_core.proofs.Quiets.{quiet_by, given_by}
use Rattle.phase_core.proofs.Notes.{length-numbers_of, number_at, note_fits}
use Rattle.phase_core.proofs.Takes.{taken_by}
use Rattle.phase_core.proofs.Frees.{keeps_freed}
use Rattle.phase_core.proofs.Steps.{keeps_unblocked, keeps_interposed_first, keeps_interposed, keeps_opened, keeps_reopened, keeps_begun, keeps_refused, keeps_ended}

pub sound_in : {scene : Scene} {s : Phases} → IsInScene scene s → IsSound s
sound_in {scene} h = record { scene = scene; in_scene = h }

-- what a test has found

from_is_out : (place : Place) → is_out place ≡ true → place ≡ Out
from_is_out Out e = refl
from_is_out place e = absurd (cc)

from_is_idle_swap : (swap : SwapAt) → is_idle swap ≡ true → swap ≡ Idle
from_is_idle_swap Idle e = refl
from_is_idle_swap swap e = absurd (cc)

module _ (scene : Scene) (s : Phases) (h : IsInScene scene s) (c : ℕ) (there : c < length s.turns.callers) where
  abbrev g : Caller
  g = caller_at s.turns c

  abbrev x : Visitor
  x = visitor_at s c

  at_x : slice_get s.callers c ≡ Some x
  at_x = slice_get-get_or s.callers c fresh_visitor (rw (h.many_callers, ← h.in_course.many_callers) there)

  at_c : slice_get s.turns.callers c ≡ Some g
  at_c = at_g scene s h c x there at_x

  own : IsVisitor scene c g x
  own = known scene s h c x there at_x

  at_object : (o : ℕ) → o < scene.objects → slice_get s.objects o ≡ Some (object_at s o)
  at_object o lt = slice_get-get_or s.objects o fresh_object (rw h.many_objects lt)

  at_entry : (o : ℕ) → o < scene.objects → slice_get (object_at s o).entries g.proc ≡ Some (entry_at (object_at s o) g.proc)
  at_entry o lt =
      slice_get-get_or (object_at s o).entries g.proc (empty_entry 0)
      (rw (h.objects o (object_at s o) (at_object o lt)).many_entries (h.in_course.placed c g at_c).proc)

  -- events of generations

  looked_by : (b more : Bool) → turns.is_drained g (turns.turn_of s.turns c) ≡ b
      → g.grace ≡ graces.Looking (turns.place_of g.grace)
      → IsInCourse (steered scene.course scene.course.base scene.course.holder (with_grace g (cond more (graces.Looking (turns.place_of g.grace + 1)) graces.Quiet) g.coming g.waits))
      (put_caller s.turns c (with_grace g (cond more (graces.Looking (turns.place_of g.grace + 1)) graces.Quiet) g.coming g.waits))
      → IsSound (record s {
        turns = put_caller s.turns c (with_grace g (cond more (graces.Looking (turns.place_of g.grace + 1)) graces.Quiet) g.coming g.waits);
        callers = set s.callers c (record x { swap = drained_at (cond more (graces.Looking (turns.place_of g.grace + 1)) graces.Quiet) x.swap });
      })
  looked_by b true drained looking kept =
      let g' : Caller = with_grace g (graces.Looking (turns.place_of g.grace + 1)) g.coming g.waits in
      sound_in (looked_on scene s h c x there at_x (put_caller s.turns c g') (steered scene.course scene.course.base scene.course.holder g') g'
      (slice_get-set_here s.turns.callers c g' there) (λ i other. slice_get-set_else s.turns.callers c i g' other)
      kept refl refl refl refl looking (turns.place_of g.grace + 1) refl refl)
  looked_by b false drained looking kept =
      let g' : Caller = with_grace g graces.Quiet g.coming g.waits in
      quiet_by scene s h c x there at_x (steered scene.course scene.course.base scene.course.holder g') (put_caller s.turns c g') g'
      (slice_get-set_here s.turns.callers c g' there) (λ i other. slice_get-set_else s.turns.callers c i g' other)
      kept refl refl refl refl (turns.place_of g.grace) looking refl refl refl x.swap refl own.swap_alone.grace

  keeps_look : (b : Bool) → turns.is_drained g (turns.turn_of s.turns c) ≡ b → turns.is_looking g.grace ≡ true
      → let t : Generations = cond b (put_caller s.turns c (turns.caller_passed g (length s.turns.procs))) s.turns in
      IsSound (record s { turns = t; callers = set s.callers c (record x { swap = drained_at (caller_at t c).grace x.swap }) })
  keeps_look false drained looks =
      let looking = from_is_looking g.grace looks in
      let kept = looked_on scene s h c x there at_x s.turns scene.course g at_c (λ i other. refl) h.in_course refl refl refl refl looking (turns.place_of g.grace) looking refl in
      rw looking (sound_in kept)
  keeps_look true drained looks =
      let looking = from_is_looking g.grace looks in
      rw (get_or-set_same s.turns.callers c (turns.caller_passed g (length s.turns.procs)) _ there)
      (looked_by true (ltb (turns.place_of g.grace + 1) (length s.turns.procs)) drained looking
      (gen.keeps_passed scene.course s.turns h.in_course c g at_c (turns.place_of g.grace) (turns.turn_of s.turns c)
      (at_turn scene.course s.turns h.in_course c there (λ idle. absurd (cc))) looking (eqb-true _ _ drained)))

  -- calls

  installed_by : (o : ℕ) (place : Place) → x.place ≡ place → is_missed place o ≡ true
      → IsSound (cond (is_empty_at (entry_at (object_at s o) g.proc) (row_of place))
      (put_object (put_visitor s c (at_place x (Direct o (row_of place)))) o (put_entry (object_at s o) g.proc (direct_entry (object_at s o).shapes (object_at s o).layout g.proc (row_of place))))
      (put_visitor s c (at_place x Out)))
  installed_by o (Missed q i) at_row missed =
      let same : q ≡ o = eqb-true q o missed in
      let lt : o < scene.objects = rw (← same) (rw at_row at own.at_place).0 in
      sound_by (is_empty_at (entry_at (object_at s o) g.proc) i)
      (keeps_installed scene s h c g x at_c at_x o (object_at s o) (at_object o lt) (entry_at (object_at s o) g.proc) (at_entry o lt)
      i (at_row ∙ ap (λ r. Missed r i) same) (is_empty_at (entry_at (object_at s o) g.proc) i) refl)
    where
      sound_by : (b : Bool) {t : Phases} → IsInScene scene t → IsSound t
      sound_by b h = sound_in h
  installed_by o place at_row missed = absurd (cc)

  knocked_by : (o : ℕ) (place : Place) → x.place ≡ place → is_at_mediator place o ≡ true → IsSound (effect s (Knock c o))
  knocked_by o (AtMediator q) at_row knocks =
      let same : q ≡ o = eqb-true q o knocks in
      let lt : o < scene.objects = rw (← same) (rw at_row at own.at_place) in
      sound_in (keeps_knocked scene s h c g x at_c at_x o (object_at s o) (at_object o lt) (at_row ∙ ap (λ r. AtMediator r) same) (object_at s o).block refl)
  knocked_by o place at_row knocks = absurd (cc)

  stepped_by : (place : Place) → x.place ≡ place → is_counted place ≡ true
      → IsSound (put_object (put_visitor s c (at_place x Out)) (object_of place) (counted_out (object_at s (object_of place))))
  stepped_by (Tracked o i) at_row counts =
      sound_in (keeps_stepped_out scene s h c g x at_c at_x o (object_at s o) (at_object o (rw at_row at own.at_place).0)
      (rw at_row (eq-eqb o o refl)) (λ q other. rw at_row (ne_eqb o q (λ same. other (sym same)))))
  stepped_by (Blocked o) at_row counts =
      sound_in (keeps_stepped_out scene s h c g x at_c at_x o (object_at s o) (at_object o (rw at_row at own.at_place))
      (rw at_row (eq-eqb o o refl)) (λ q other. rw at_row (ne_eqb o q (λ same. other (sym same)))))
  stepped_by place at_row counts = absurd (cc)

  ended_by : (place : Place) → x.place ≡ place → is_uncounted place ≡ true → IsSound (put_visitor s c (at_place x Out))
  ended_by (Missed o i) at_row uncounted = sound_in (keeps_out scene s h c g x at_c at_x (λ q. rw at_row refl))
  ended_by (Direct o i) at_row uncounted = sound_in (keeps_out scene s h c g x at_c at_x (λ q. rw at_row refl))
  ended_by place at_row uncounted = absurd (cc)

  -- swaps

  named_there : (o : ℕ) (swap : SwapAt) → x.swap ≡ swap → named_by swap ≡ Some o → slice_get s.objects o ≡ Some (object_at s o)
  named_there o swap at_swap named = at_object o (own.swap_alone.there o (rw at_swap named))

  begun_by : (o : ℕ) → o < scene.objects → x.swap ≡ Idle → g.active ≡ None → g.grace ≡ graces.Idle → IsSound (begun s c o)
  begun_by o lt at_swap inactive idle = by_swap (object_at s o).swap refl where
    by_swap : (b : Bool) → (object_at s o).swap ≡ b
        → IsSound (cond b s (put_object (put_visitor s c (at_stage x (begun_as o (is_over (object_at s o))))) o (record (object_at s o) { swap = true })))
    by_swap true e = sound_in h
    by_swap false e = sound_in (keeps_begun scene s h c g x at_c at_x o (object_at s o) (at_object o lt) at_swap inactive idle e)

  interposed_by : (swap : SwapAt) → x.swap ≡ swap → is_interposing swap ≡ true → IsSound (interposed s c swap)
  interposed_by (Begun o) at_swap is =
      sound_in (keeps_interposed_first scene s h c g x at_c at_x o (object_at s o) (named_there o (Begun o) at_swap refl) at_swap)
  interposed_by (Interposing o p) at_swap is =
      sound_in (keeps_interposed scene s h c g x at_c at_x o (object_at s o) (named_there o (Interposing o p) at_swap refl) p at_swap)
  interposed_by swap at_swap is = absurd (cc)

  blocked_by : (swap : SwapAt) → x.swap ≡ swap → is_drained swap ≡ true → g.grace ≡ graces.Idle
      → IsSound (staged s c (object_named swap) (Blocking (object_named swap)) (record (object_at s (object_named swap)) { block = true }))
  blocked_by (Drained o) at_swap is idle =
      sound_in (keeps_blocked scene s h c g x at_c at_x o (object_at s o) (named_there o (Drained o) at_swap refl) at_swap idle)
  blocked_by swap at_swap is idle = absurd (cc)

  moved_by : (swap : SwapAt) → x.swap ≡ swap → is_blocking swap ≡ true → IsSound (moved s c (object_named swap))
  moved_by (Blocking o) at_swap is = by_count (eqb (object_at s o).count 0) refl where
    by_count : (b : Bool) → eqb (object_at s o).count 0 ≡ b
        → IsSound (cond b (staged s c o (Moved o) (record (object_at s o) { moving = true })) s)
    by_count true e =
        sound_in (keeps_moved scene s h c g x at_c at_x o (object_at s o) (named_there o (Blocking o) at_swap refl) at_swap (eqb-true _ 0 e))
    by_count false e = sound_in h
  moved_by swap at_swap is = absurd (cc)

  turned_by : (layout : ℕ) (swap : SwapAt) → layout ≤ length (object_at s (object_named swap)).shapes → x.swap ≡ swap → is_moved swap ≡ true
      → IsSound (staged s c (object_named swap) (Opening (object_named swap) 0) (turned_over (object_at s (object_named swap)) layout))
  turned_by layout (Moved o) fits at_swap is =
      sound_in (keeps_turned_over scene s h c g x at_c at_x o (object_at s o) (named_there o (Moved o) at_swap refl) layout at_swap fits)
  turned_by layout swap fits at_swap is = absurd (cc)

  unblocked_by : (swap : SwapAt) → x.swap ≡ swap → is_moved swap ≡ true
      → IsSound (staged s c (object_named swap) (Reopening (object_named swap) 0) (unblocked (object_at s (object_named swap))))
  unblocked_by (Moved o) at_swap is =
      sound_in (keeps_unblocked scene s h c g x at_c at_x o (object_at s o) (named_there o (Moved o) at_swap refl) at_swap)
  unblocked_by swap at_swap is = absurd (cc)

  opened_by : (swap : SwapAt) → x.swap ≡ swap → is_opening swap ≡ true → IsSound (opened s c swap)
  opened_by (Opening o p) at_swap is =
      sound_in (keeps_opened scene s h c g x at_c at_x o (object_at s o) (named_there o (Opening o p) at_swap refl) p at_swap)
  opened_by (Reopening o p) at_swap is =
      sound_in (keeps_reopened scene s h c g x at_c at_x o (object_at s o) (named_there o (Reopening o p) at_swap refl) p at_swap)
  opened_by swap at_swap is = absurd (cc)

  cleared_by : (swap : SwapAt) → x.swap ≡ swap → is_ended swap ≡ true
      → IsSound (staged s c (object_named swap) Idle (cleared (object_at s (object_named swap))))
  cleared_by (Refused o) at_swap is =
      sound_in (keeps_refused scene s h c g x at_c at_x o (object_at s o) (named_there o (Refused o) at_swap refl) at_swap)
  cleared_by (Opened o) at_swap is =
      sound_in (keeps_ended scene s h c g x at_c at_x o (object_at s o) (named_there o (Opened o) at_swap refl) at_swap)
  cleared_by swap at_swap is = absurd (cc)

  freed_by : (o : ℕ) → o < scene.objects → g.grace ≡ graces.Quiet → (note : Option ℕ) → note_at x.noted o ≡ note → is_some note ≡ true
      → IsSound (freed_to s c o (unwrap_or note 0))
  freed_by o lt quiet None noted is = absurd (cc)
  freed_by o lt quiet (Some n) noted is = by_test (ltb (object_at s o).freed n) refl where
    by_test : (b : Bool) → ltb (object_at s o).freed n ≡ b
        → IsSound (cond b (put_object (put_visitor s c (record x { freeing = set x.freeing o ((object_at s o).freed, n) })) o (record (object_at s o) { freed = n })) s)
    by_test true e =
        sound_in (keeps_freed scene s h c g x at_c at_x o (object_at s o) (at_object o lt) quiet n noted (ltb-true (object_at s o).freed n e))
    by_test false e = sound_in h

  taken_with_by : (notes : List (ℕ × ℕ)) (role : Option ℕ) → s.turns.role ≡ role → is_possible s (TakeRoleWith c notes) ≡ true
      → IsSound (taken_with s c notes role)
  taken_with_by notes (Some holder) held possible = sound_in h
  taken_with_by notes None free possible =
      let first = and_parts (turns.is_possible s.turns (TakeRole c)) _ possible in
      let second = and_parts (may_take x.swap) _ first.1 in
      let third = and_parts (name_each_once notes) _ second.1 in
      let fourth = and_parts (fit_notes s.objects notes) _ third.1 in
      taken_by scene s h free c x there at_x (numbers_of notes (length s.objects)) (length-numbers_of notes (length s.objects))
      (λ q n within e. note_fits s.objects notes q n fourth.0 (sym (number_at notes (length s.objects) q within) ∙ e))
      first.0 x.swap refl second.0
      (λ o interposed.
      let within : o < length s.objects = rw h.many_objects ((known scene s h c x there at_x).swap_alone.there o (rw interposed refl)) in
      rw (number_at notes (length s.objects) o within) (rw interposed at fourth.1))

keeps_turn_of : (s : Phases) (event : GenEvent) → IsSound s → turns.caller_of event < length s.turns.callers
    → turns.is_possible s.turns event ≡ true → may_turn s event ≡ true → IsSound (turned s event)
keeps_turn_of s (Enter c) sound there possible may =
    sound_in (keeps_enter sound.scene s sound.in_scene c (visitor_at s c) there (at_x sound.scene s sound.in_scene c there) possible (from_is_idle_swap (visitor_at s c).swap may))
keeps_turn_of s (Leave c) sound there possible may =
    sound_in (keeps_leave sound.scene s sound.in_scene c (visitor_at s c) there (at_x sound.scene s sound.in_scene c there) possible (from_is_out (visitor_at s c).place may))
keeps_turn_of s (TakeRole c) sound there possible may = absurd (cc)
keeps_turn_of s (LookAhead c) sound there possible may =
    sound_in (keeps_looked_ahead sound.scene s sound.in_scene c (visitor_at s c) there (at_x sound.scene s sound.in_scene c there) possible)
keeps_turn_of s (Flip c) sound there possible may =
    sound_in (keeps_flip sound.scene s sound.in_scene c (visitor_at s c) there (at_x sound.scene s sound.in_scene c there) possible)
keeps_turn_of s (Look c) sound there possible may =
    keeps_look sound.scene s sound.in_scene c there (turns.is_drained (caller_at s.turns c) (turns.turn_of s.turns c)) refl possible
keeps_turn_of s (GiveRole c) sound there possible may =
    given_by sound.scene s sound.in_scene c (visitor_at s c) there (at_x sound.scene s sound.in_scene c there) possible (visitor_at s c).swap refl
    (own sound.scene s sound.in_scene c there).swap_alone.grace may

-- a possible event keeps every fact
pub event_keeps : (s : Phases) (event : Event) → IsSound s → caller_of event < length s.turns.callers
    → NamesObjects (length s.objects) event → is_possible s event ≡ true → IsSound (effect s event)
event_keeps s (Turn event) sound there named possible =
    let parts = and_parts (turns.is_possible s.turns event) _ possible in keeps_turn_of s event sound there parts.0 parts.1
event_keeps s (TakeRoleWith c notes) sound there named possible =
    taken_with_by sound.scene s sound.in_scene c there notes s.turns.role refl possible
event_keeps s (LookUp c o) sound there named possible =
    let parts = and_parts (is_some (caller_at s.turns c).active) _ possible in
    let active = from_is_some (caller_at s.turns c).active parts.0 in
    let lt : o < sound.scene.objects = rw (← sound.in_scene.many_objects) named in
    sound_in (keeps_looked_up sound.scene s sound.in_scene c (caller_at s.turns c) (visitor_at s c)
    (at_c sound.scene s sound.in_scene c there) (at_x sound.scene s sound.in_scene c there) o (object_at s o) (at_object sound.scene s sound.in_scene c there o lt)
    (entry_at (object_at s o) (proc_of s c)) (at_entry sound.scene s sound.in_scene c there o lt)
    (from_is_out (visitor_at s c).place parts.1) active.0 active.1)
event_keeps s (RootLoad c o) sound there named possible = sound
event_keeps s (Install c o) sound there named possible = installed_by sound.scene s sound.in_scene c there o (visitor_at s c).place refl possible
event_keeps s (Knock c o) sound there named possible = knocked_by sound.scene s sound.in_scene c there o (visitor_at s c).place refl possible
event_keeps s (StepOut c) sound there named possible = stepped_by sound.scene s sound.in_scene c there (visitor_at s c).place refl possible
event_keeps s (EndCall c) sound there named possible = ended_by sound.scene s sound.in_scene c there (visitor_at s c).place refl possible
event_keeps s (Begin c o) sound there named possible =
    let parts = and_parts (turns.is_free (caller_at s.turns c)) _ possible in
    let alone = and_parts (turns.is_idle (caller_at s.turns c).grace) _ parts.0 in
    begun_by sound.scene s sound.in_scene c there o (rw (← sound.in_scene.many_objects) named) (from_is_idle_swap (visitor_at s c).swap parts.1)
    (from_is_none (caller_at s.turns c).active alone.1) (from_is_idle (caller_at s.turns c).grace alone.0)
event_keeps s (Interpose c) sound there named possible = interposed_by sound.scene s sound.in_scene c there (visitor_at s c).swap refl possible
event_keeps s (Block c) sound there named possible =
    let parts = and_parts (turns.is_idle (caller_at s.turns c).grace) _ possible in
    blocked_by sound.scene s sound.in_scene c there (visitor_at s c).swap refl parts.1 (from_is_idle (caller_at s.turns c).grace parts.0)
event_keeps s (Move c) sound there named possible = moved_by sound.scene s sound.in_scene c there (visitor_at s c).swap refl possible
event_keeps s (TurnOver c layout) sound there named possible =
    let parts = and_parts (is_moved (visitor_at s c).swap) _ possible in
    turned_by sound.scene s sound.in_scene c there layout (visitor_at s c).swap (leb-true layout _ parts.1) refl parts.0
event_keeps s (Unblock c) sound there named possible = unblocked_by sound.scene s sound.in_scene c there (visitor_at s c).swap refl possible
event_keeps s (Open c) sound there named possible = opened_by sound.scene s sound.in_scene c there (visitor_at s c).swap refl possible
event_keeps s (Clear c) sound there named possible = cleared_by sound.scene s sound.in_scene c there (visitor_at s c).swap refl possible
event_keeps s (Free c o) sound there named possible =
    let parts = and_parts (turns.is_quiet (caller_at s.turns c).grace) _ possible in
    freed_by sound.scene s sound.in_scene c there o (rw (← sound.in_scene.many_objects) named) (from_is_quiet (caller_at s.turns c).grace parts.0)
    (note_at (visitor_at s c).noted o) refl parts.1
