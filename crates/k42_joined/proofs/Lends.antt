-- Which events of tables and swaps leave each caller what it may touch.
use Rattle.std.proofs.Common.{◌≡◌, ℕ, zero, suc, ◌<◌, ◌≢◌, ◌∙◌, Bool, true, false, not, ◌||◌, cond, ltb, leb, eqb, List, [], ◌∷◌, Option, Some, None, length, get_or, set, sym, refl, ap, subst, ⊎_elim, arith}
use Rattle.std.specs.Option.{unwrap_or, is_some}
use Rattle.std.proofs.lemmas.List.{get_or-set_other}
use Rattle.std.proofs.lemmas.Option.{same_Some, slice_get-get_or}
use Rattle.std.proofs.lemmas.Bool.{and_parts, eqb-true, leb-true, ltb-true, cases_eq}
use Rattle.k42_limits.specs.declared.TheConstants.{LAST_INCARNATION}
use Rattle.gen_core.specs.declared.event.GenEvent.{GenEvent}
use Rattle.gen_core.specs.declared.event.GenEvent.TheVariants.{Enter, Leave, TakeRole, LookAhead, Flip, Look, GiveRole}
use Rattle.gen_core.specs.declared.state.GraceAt.{GraceAt}
use Rattle.gen_core.specs.declared.state.GraceAt.TheVariants as graces
use Rattle.gen_core.specs.State.{caller_at}
use Rattle.gen_core.specs.Events as turns
use Rattle.gen_core.proofs.Stages.{from_is_quiet}
use Rattle.gen_core.proofs.Frames.{holder_from_grace}
use Rattle.gen_core.proofs.Reached.{holds_from}
use Rattle.phase_core.specs.declared.caller.Place.{Place}
use Rattle.phase_core.specs.declared.caller.Place.TheVariants.{Out, Direct, AtMediator}
use Rattle.phase_core.specs.declared.caller.SwapAt.{SwapAt}
use Rattle.phase_core.specs.declared.caller.SwapAt.TheVariants.{Idle, Refused, Begun, Interposing, Drained, Blocking, Moved, Opening, Reopening, Opened}
use Rattle.phase_core.specs.Plain.{Object, Visitor, Phases}
use Rattle.phase_core.specs.Event.{Event, Turn, TakeRoleWith, LookUp, RootLoad, Install, Knock, StepOut, EndCall, Begin, Interpose, Block, Move, TurnOver, Unblock, Open, Clear, Free, caller_of, NamesObjects}
use Rattle.phase_core.specs.State.{fresh_object, fresh_visitor, object_at, visitor_at, entry_at, proc_of, put_object, put_visitor, note_at, span_at}
use Rattle.phase_core.specs.Stages.{is_out, is_at_mediator, is_idle, is_drained, is_blocking, is_moved, is_ended, row_of, object_of, object_named}
use Rattle.phase_core.specs.Effects.{is_over, is_empty_at, at_place, at_stage, begun_as, knocked, looked_up, drained_at, draining_from, role_taken_with}
use Rattle.phase_core.specs.Events.{turned, taken_with, interposed, opened, staged, freed_to, is_possible, effect}
use Rattle.phase_core.specs.Notes.{numbers_of}
use Rattle.phase_core.specs.Callers.{IsFreeing}
use Rattle.phase_core.specs.Sound.{IsSound}
use Rattle.phase_core.proofs.Reached.{same_callers}
use Rattle.phase_core.proofs.InSound.{object_known, visitor_known, moved_is_ready}
use Rattle.k42_joined.specs.Touching.{is_inside, is_moving, is_freeing, is_over_in, has_way, may_touch}

-- the events before which the caller holds no cell
abbrev pub releases : Event → Bool
releases (Install c o) = true
releases (EndCall c) = true
releases (StepOut c) = true
releases (TurnOver c layout) = true
releases (Unblock c) = true
releases (Turn (GiveRole c)) = true
releases event = false

pub or_map : (a b c d : Bool) → (a ≡ true → c ≡ true) → (b ≡ true → d ≡ true) → a || b ≡ true → c || d ≡ true
or_map true b c d f g e = rw (f refl) refl
or_map false b true d f g e = refl
or_map false b false d f g e = g e

-- a test of each place, after one place is updated by what meets it again
pub set_some : {A : Type 0} (P : A → Bool) (xs : List A) (q o : ℕ) (a z : A) → (P (get_or xs q z) ≡ true → P a ≡ true)
    → P (get_or xs o z) ≡ true → P (get_or (set xs q a) o z) ≡ true
set_some P [] q o a z f e = e
set_some P (x ∷ xs) zero zero a z f e = f e
set_some P (x ∷ xs) zero (suc o) a z f e = e
set_some P (x ∷ xs) (suc q) zero a z f e = e
set_some P (x ∷ xs) (suc q) (suc o) a z f e = set_some P xs q o a z f e

pub way_map : (x y : Visitor) (o i : ℕ) → (is_inside x.place o i ≡ true → is_inside y.place o i ≡ true)
    → (is_moving x.swap o ≡ true → is_moving y.swap o ≡ true) → (is_freeing x.freeing o i ≡ true → is_freeing y.freeing o i ≡ true)
    → has_way x o i ≡ true → has_way y o i ≡ true
way_map x y o i f g h e =
    or_map (is_inside x.place o i) (is_moving x.swap o || is_freeing x.freeing o i) (is_inside y.place o i) (is_moving y.swap o || is_freeing y.freeing o i) f
    (or_map (is_moving x.swap o) (is_freeing x.freeing o i) (is_moving y.swap o) (is_freeing y.freeing o i) g h) e

-- what a test has found, so that nothing is lost

not_inside_out : (place : Place) (o i : ℕ) → is_out place ≡ true → is_inside place o i ≡ true → ⊥
not_inside_out Out o i e m = cc
not_inside_out place o i e m = cc

not_inside_mediator : (place : Place) (q o i : ℕ) → is_at_mediator place q ≡ true → is_inside place o i ≡ true → ⊥
not_inside_mediator (AtMediator p) q o i e m = cc
not_inside_mediator place q o i e m = cc

not_mover : (swap : SwapAt) (o : ℕ) → is_moved swap ≡ false → is_moving swap o ≡ true → ⊥
not_mover (Moved q) o e m = cc
not_mover swap o e m = cc

idle_not : (swap : SwapAt) → is_idle swap ≡ true → is_moved swap ≡ false
idle_not Idle e = refl
idle_not swap e = absurd (cc)

drained_not : (swap : SwapAt) → is_drained swap ≡ true → is_moved swap ≡ false
drained_not (Drained o) e = refl
drained_not swap e = absurd (cc)

blocking_not : (swap : SwapAt) → is_blocking swap ≡ true → is_moved swap ≡ false
blocking_not (Blocking o) e = refl
blocking_not swap e = absurd (cc)

ended_not : (swap : SwapAt) → is_ended swap ≡ true → is_moved swap ≡ false
ended_not (Refused o) e = refl
ended_not (Opened o) e = refl
ended_not swap e = absurd (cc)

mover_drained : (grace : GraceAt) (swap : SwapAt) (o : ℕ) → is_moving swap o ≡ true → is_moving (drained_at grace swap) o ≡ true
mover_drained graces.Quiet (Moved q) o m = m
mover_drained graces.Quiet swap o m = absurd (cc)
mover_drained grace swap o m = m

mover_draining : (swap : SwapAt) (o : ℕ) → is_moving swap o ≡ true → is_moving (draining_from swap) o ≡ true
mover_draining (Moved q) o m = m
mover_draining swap o m = absurd (cc)

-- what a state lends another: each touch of this caller that it allows
abbrev pub Lends : Phases → Phases → ℕ → Type 0
Lends s t d = (o i : ℕ) → may_touch s d o i ≡ true → may_touch t d o i ≡ true

pub Lends-refl : (s : Phases) (d : ℕ) → Lends s s d
Lends-refl s d o i e = e

module _ (s : Phases) (c d : ℕ) where
  abbrev x : Visitor
  x = visitor_at s c

  abbrev Keeps : Visitor → Type 0
  Keeps y = (o i : ℕ) → has_way x o i ≡ true → has_way y o i ≡ true

  -- the caller of the event loses no way
  one_caller : (y : Visitor) → Keeps y → Lends s (put_visitor s c y) d
  one_caller y keeps o i e =
      or_map (has_way (visitor_at s d) o i) (is_over_in (object_at s o) i) (has_way (get_or (set s.callers c y) d fresh_visitor) o i) (is_over_in (object_at s o) i)
      (set_some (λ z. has_way z o i) s.callers c d y fresh_visitor (keeps o i)) (λ over. over) e

  with_object : (y : Visitor) (q : ℕ) (k : Object) → Keeps y
      → ((i : ℕ) → is_over_in (object_at s q) i ≡ true → is_over_in k i ≡ true)
      → Lends s (put_object (put_visitor s c y) q k) d
  with_object y q k keeps over o i e =
      or_map (has_way (visitor_at s d) o i) (is_over_in (object_at s o) i) (has_way (get_or (set s.callers c y) d fresh_visitor) o i) (is_over_in (get_or (set s.objects q k) o fresh_object) i)
      (set_some (λ z. has_way z o i) s.callers c d y fresh_visitor (keeps o i))
      (set_some (λ l. is_over_in l i) s.objects q o k fresh_object (over i)) e

  -- another caller has what it had
  other_caller : (y : Visitor) → d ≢ c → Lends s (put_visitor s c y) d
  other_caller y other o i e = rw (get_or-set_other s.callers c d y fresh_visitor other) e

  other_object : (y : Visitor) (q : ℕ) (k : Object) → d ≢ c
      → ((i : ℕ) → is_over_in (object_at s q) i ≡ true → is_over_in k i ≡ true)
      → Lends s (put_object (put_visitor s c y) q k) d
  other_object y q k other over o i e =
      or_map (has_way (visitor_at s d) o i) (is_over_in (object_at s o) i) (has_way (get_or (set s.callers c y) d fresh_visitor) o i) (is_over_in (get_or (set s.objects q k) o fresh_object) i)
      (λ way. rw (get_or-set_other s.callers c d y fresh_visitor other) way)
      (set_some (λ l. is_over_in l i) s.objects q o k fresh_object (over i)) e

  either : (b : Bool) (t u : Phases) → Lends s t d → Lends s u d → Lends s (cond b t u) d
  either true t u first second = first
  either false t u first second = second

  -- a new stage that is not Moved, from one that is not
  staged_keeps : (swap : SwapAt) → is_moved x.swap ≡ false → Keeps (at_stage x swap)
  staged_keeps swap not o i e =
      way_map x (at_stage x swap) o i (λ m. m) (λ m. absurd (not_mover x.swap o not m)) (λ m. m) e

  staged_lends : (q : ℕ) (swap : SwapAt) (k : Object) → is_moved x.swap ≡ false
      → ((i : ℕ) → is_over_in (object_at s q) i ≡ true → is_over_in k i ≡ true) → Lends s (staged s c q swap k) d
  staged_lends q swap k not over = with_object (at_stage x swap) q k (staged_keeps swap not) over

  interposed_lends : (swap : SwapAt) → x.swap ≡ swap → Lends s (interposed s c swap) d
  interposed_lends (Begun q) at = staged_lends q _ _ (ap is_moved at) (λ i over. over)
  interposed_lends (Interposing q p) at = staged_lends q _ _ (ap is_moved at) (λ i over. over)
  interposed_lends swap at = Lends-refl s d

  opened_lends : (swap : SwapAt) → x.swap ≡ swap → Lends s (opened s c swap) d
  opened_lends (Opening q p) at = staged_lends q _ _ (ap is_moved at) (λ i over. over)
  opened_lends (Reopening q p) at = staged_lends q _ _ (ap is_moved at) (λ i over. over)
  opened_lends swap at = Lends-refl s d

  taken_lends : (notes : List (ℕ × ℕ)) (role : Option ℕ) → Lends s (taken_with s c notes role) d
  taken_lends notes None =
      let numbers = numbers_of notes (length s.objects) in
      one_caller (role_taken_with x numbers) (λ o i e. way_map x (role_taken_with x numbers) o i (λ m. m) (mover_draining x.swap o) (λ m. m) e)
  taken_lends notes (Some holder) = Lends-refl s d

  knocked_keeps : (q i : ℕ) (b : Bool) → is_at_mediator x.place q ≡ true → Keeps (knocked x q i b)
  knocked_keeps q i true at o j e =
      way_map x (knocked x q i true) o j (λ m. absurd (not_inside_mediator x.place q o j at m)) (λ m. m) (λ m. m) e
  knocked_keeps q i false at o j e =
      way_map x (knocked x q i false) o j (λ m. absurd (not_inside_mediator x.place q o j at m)) (λ m. m) (λ m. m) e

  turned_lends : (event : GenEvent) → turns.caller_of event ≡ c → (releases (Turn event) ≡ true → d ≢ c) → Lends s (turned s event) d
  turned_lends (Enter e) same other = rw same (one_caller x (λ o i m. m))
  turned_lends (Leave e) same other = rw same (one_caller (record x { read = [] }) (λ o i m. m))
  turned_lends (TakeRole e) same other = rw same (one_caller x (λ o i m. m))
  turned_lends (LookAhead e) same other = rw same (one_caller x (λ o i m. m))
  turned_lends (Flip e) same other = rw same (one_caller x (λ o i m. m))
  turned_lends (Look e) same other =
      rw same (one_caller (record x { swap = drained_at (caller_at (turns.effect s.turns (Look c)) c).grace x.swap })
      (λ o i m. way_map x (record x { swap = drained_at (caller_at (turns.effect s.turns (Look c)) c).grace x.swap }) o i (λ n. n)
      (mover_drained (caller_at (turns.effect s.turns (Look c)) c).grace x.swap o) (λ n. n) m))
  turned_lends (GiveRole e) same other = rw same (other_caller _ (other refl))

  -- a caller that frees has no row to lose
  freed_lends : (sound : IsSound s) → c < length s.turns.callers → (q : ℕ) → q < length s.objects
      → turns.is_quiet (caller_at s.turns c).grace ≡ true → (n : ℕ) → note_at x.noted q ≡ Some n → Lends s (freed_to s c q n) d
  freed_lends sound there q named quiet n noted = by_test (ltb (object_at s q).freed n) refl where
    frees : IsFreeing sound.scene c x
    frees = (visitor_known s sound c (rw (same_callers s sound) there)).frees_alone

    holder : sound.scene.course.holder ≡ Some c
    holder =
        let e = from_is_quiet (caller_at s.turns c).grace quiet in
        holds_from sound.scene.course.holder c (holder_from_grace sound.scene.course s.turns sound.in_scene.in_course c (caller_at s.turns c) (slice_get-get_or s.turns.callers c _ there) (λ idle. absurd (cc))).0

    -- the rows of the object that are being freed are freed already
    no_span : (i : ℕ) → ltb (object_at s q).freed n ≡ true → is_freeing x.freeing q i ≡ true → ⊥
    no_span i more m =
        let both = and_parts (leb (span_at x.freeing q).0 i) (ltb i (span_at x.freeing q).1) m in
        let low = leb-true (span_at x.freeing q).0 i both.0 in
        let high = ltb-true i (span_at x.freeing q).1 both.1 in
        let known = frees.freeing q (omega (arith, low, high)) in
        let same : n ≡ (span_at x.freeing q).1 = same_Some n (span_at x.freeing q).1 (sym noted ∙ (frees.noted holder q ∙ known.2)) in
        let most = known.1 in
        let less = ltb-true (object_at s q).freed n more in
        let freed = (object_known s sound q named).bits_follow.freed in
        omega (arith, same, most, less, freed)

    by_test : (b : Bool) → ltb (object_at s q).freed n ≡ b
        → Lends s (cond b (put_object (put_visitor s c (record x { freeing = set x.freeing q ((object_at s q).freed, n) })) q (record (object_at s q) { freed = n })) s) d
    by_test false e = Lends-refl s d
    by_test true e =
        with_object (record x { freeing = set x.freeing q ((object_at s q).freed, n) }) q (record (object_at s q) { freed = n })
        (λ o i m. way_map x (record x { freeing = set x.freeing q ((object_at s q).freed, n) }) o i (λ v. v) (λ v. v)
        (λ v. ⊎_elim
        (λ (same : o ≡ q). absurd (no_span i e (subst (λ p. is_freeing x.freeing p i ≡ true) same v)))
        (λ (other : o ≢ q). rw (get_or-set_other x.freeing q o ((object_at s q).freed, n) (0, 0) other) v)
        (cases_eq o q)) m)
        (λ i over. over)

-- an object that is moved is not over
pub moved_not_over : (s : Phases) → IsSound s → (c : ℕ) → c < length s.callers → (q : ℕ) → (visitor_at s c).swap ≡ Moved q
    → (i : ℕ) → is_over_in (object_at s q) i ≡ true → ⊥
moved_not_over s sound c there q moved i over =
    let ready = moved_is_ready s sound c q there moved in
    not_over (length (object_at s q).shapes) (object_at s q).layout (object_at s q).incarnation ready.alive ready.next (and_parts (is_over (object_at s q)) _ over).0
  where
    not_over : (dead layout incarnation : ℕ) → layout < dead → incarnation < LAST_INCARNATION → eqb layout dead || eqb incarnation LAST_INCARNATION ≡ true → ⊥
    not_over dead layout incarnation a b e = by_test (eqb layout dead) refl e where
      by_test : (t : Bool) → eqb layout dead ≡ t → t || eqb incarnation LAST_INCARNATION ≡ true → ⊥
      by_test true f g = let h = eqb-true layout dead f in omega (arith, h, a)
      by_test false f g = let h = eqb-true incarnation LAST_INCARNATION g in omega (arith, h, b)

pub from_is_moved : (swap : SwapAt) → is_moved swap ≡ true → swap ≡ Moved (object_named swap)
from_is_moved (Moved q) e = refl
from_is_moved swap e = absurd (cc)

-- an event leaves each caller what it may touch, but for one that holds no cell
pub event_lends : (s : Phases) (event : Event) (d : ℕ) → IsSound s → caller_of event < length s.turns.callers → NamesObjects (length s.objects) event
    → is_possible s event ≡ true → (releases event ≡ true → d ≢ caller_of event) → Lends s (effect s event) d
event_lends s (Turn event) d sound there named possible other = turned_lends s (turns.caller_of event) d event refl other
event_lends s (TakeRoleWith c notes) d sound there named possible other = taken_lends s c d notes s.turns.role
event_lends s (LookUp c o) d sound there named possible other =
    let parts = and_parts (is_some (caller_at s.turns c).active) _ possible in
    one_caller s c d (looked_up (visitor_at s c) o (entry_at (object_at s o) (proc_of s c)))
    (λ p i m. way_map (visitor_at s c) (looked_up (visitor_at s c) o (entry_at (object_at s o) (proc_of s c))) p i
    (λ v. absurd (not_inside_out (visitor_at s c).place p i parts.1 v)) (λ v. v) (λ v. v) m)
event_lends s (RootLoad c o) d sound there named possible other = Lends-refl s d
event_lends s (Install c o) d sound there named possible other =
    either s c d (is_empty_at (entry_at (object_at s o) (proc_of s c)) (row_of (visitor_at s c).place)) _ _
    (other_object s c d (at_place (visitor_at s c) (Direct o (row_of (visitor_at s c).place))) o _ (other refl) (λ i over. over))
    (other_caller s c d (at_place (visitor_at s c) Out) (other refl))
event_lends s (Knock c o) d sound there named possible other =
    with_object s c d (knocked (visitor_at s c) o (object_at s o).incarnation (object_at s o).block) o _
    (knocked_keeps s c d o (object_at s o).incarnation (object_at s o).block possible) (λ i over. over)
event_lends s (StepOut c) d sound there named possible other =
    other_object s c d (at_place (visitor_at s c) Out) (object_of (visitor_at s c).place) _ (other refl) (λ i over. over)
event_lends s (EndCall c) d sound there named possible other = other_caller s c d (at_place (visitor_at s c) Out) (other refl)
event_lends s (Begin c o) d sound there named possible other =
    let parts = and_parts (turns.is_free (caller_at s.turns c)) _ possible in
    either s c d (object_at s o).swap _ _ (Lends-refl s d)
    (staged_lends s c d o (begun_as o (is_over (object_at s o))) _ (idle_not (visitor_at s c).swap parts.1) (λ i over. over))
event_lends s (Interpose c) d sound there named possible other = interposed_lends s c d (visitor_at s c).swap refl
event_lends s (Block c) d sound there named possible other =
    let parts = and_parts (turns.is_idle (caller_at s.turns c).grace) _ possible in
    staged_lends s c d (object_named (visitor_at s c).swap) _ _ (drained_not (visitor_at s c).swap parts.1) (λ i over. over)
event_lends s (Move c) d sound there named possible other =
    either s c d (eqb (object_at s (object_named (visitor_at s c).swap)).count 0) _ _
    (staged_lends s c d (object_named (visitor_at s c).swap) _ _ (blocking_not (visitor_at s c).swap possible) (λ i over. over)) (Lends-refl s d)
event_lends s (TurnOver c layout) d sound there named possible other =
    let parts = and_parts (is_moved (visitor_at s c).swap) _ possible in
    other_object s c d _ (object_named (visitor_at s c).swap) _ (other refl)
    (λ i over. absurd (moved_not_over s sound c (rw (same_callers s sound) there) (object_named (visitor_at s c).swap) (from_is_moved (visitor_at s c).swap parts.0) i over))
event_lends s (Unblock c) d sound there named possible other =
    other_object s c d _ (object_named (visitor_at s c).swap) _ (other refl) (λ i over. over)
event_lends s (Open c) d sound there named possible other = opened_lends s c d (visitor_at s c).swap refl
event_lends s (Clear c) d sound there named possible other =
    staged_lends s c d (object_named (visitor_at s c).swap) Idle _ (ended_not (visitor_at s c).swap possible) (λ i over. over)
event_lends s (Free c o) d sound there named possible other =
    let parts = and_parts (turns.is_quiet (caller_at s.turns c).grace) _ possible in by_note parts.0 (note_at (visitor_at s c).noted o) refl parts.1
  where
    by_note : turns.is_quiet (caller_at s.turns c).grace ≡ true → (note : Option ℕ) → note_at (visitor_at s c).noted o ≡ note → is_some note ≡ true
        → Lends s (freed_to s c o (unwrap_or note 0)) d
    by_note quiet None e some = absurd (cc)
    by_note quiet (Some n) e some = freed_lends s c d sound there o named quiet n e
