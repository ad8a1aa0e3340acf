-- What is true after every list of events.
use Rattle.std.proofs.Common.{◌≡◌, ℕ, ◌*◌, ◌<◌, ◌≤◌, ◌≢◌, ◌⊎◌, ◌∙◌, Bool, true, false, cond, List, [], ◌∷◌, ◌++◌, Some, length, sym, refl, ap, subst, inl, inr, ⊎_elim, arith}
use Rattle.std.specs.List.{slice_get}
use Rattle.std.proofs.lemmas.List.{length-map, get_or_past}
use Rattle.std.proofs.lemmas.Option.{slice_get-get_or, get_or_from_slice_get}
use Rattle.std.proofs.lemmas.Bool.{cases_eq, cases_lt}
use Rattle.gen_core.specs.declared.event.GenEvent.TheVariants.{Leave}
use Rattle.gen_core.specs.State.{caller_at}
use Rattle.k42_shapes.specs.declared.shape.Shape.{Shape}
use Rattle.phase_core.specs.declared.caller.Place.{Place}
use Rattle.phase_core.specs.declared.caller.Place.TheVariants.{Out, Missed, Direct, AtMediator, Tracked, Blocked}
use Rattle.phase_core.specs.declared.caller.SwapAt.{SwapAt}
use Rattle.phase_core.specs.declared.caller.SwapAt.TheVariants.{Idle, Moved, Reopening, Opened}
use Rattle.phase_core.specs.Callers.{IsAtPlace, IsVisitor}
use Rattle.phase_core.specs.Event.{Event, Turn, caller_of, NamesObjects}
use Rattle.phase_core.specs.Events.{is_possible, effect, happens}
use Rattle.phase_core.specs.Objects.{Bits, bits_of, BitsFollow}
use Rattle.phase_core.specs.Outlooks.{is_closed, has_moved}
use Rattle.phase_core.specs.Plain.{Phases}
use Rattle.phase_core.specs.Consequences.{FreesRow}
use Rattle.phase_core.specs.Runs.{run, AreInRange, IsReached, Occurs, HasRead, HasLeft}
use Rattle.phase_core.specs.Sound.{IsSound}
use Rattle.phase_core.specs.Stages.{IsInside}
use Rattle.phase_core.specs.State.{fresh_object, fresh_visitor, object_at, visitor_at, new_phases}
use Rattle.phase_core.proofs.Rows.{few_rows}
use Rattle.phase_core.proofs.Kept.{event_keeps}
use Rattle.phase_core.proofs.Changed.{happens_after}
use Rattle.phase_core.proofs.Alone.{ChangesOnly, ChangesOnly-refl, is_leave, only_who}
use Rattle.phase_core.proofs.Fresh.{IsSound-new}

pub same_callers : (s : Phases) → IsSound s → length s.callers ≡ length s.turns.callers
same_callers s sound = sound.in_scene.many_callers ∙ sym sound.in_scene.in_course.many_callers

pub turn_there : (s : Phases) → IsSound s → (c : ℕ) → c < length s.callers → c < length s.turns.callers
turn_there s sound c there = rw (← (same_callers s sound)) there

-- an event, possible or not

pub happens_only : (s : Phases) (event : Event) → IsSound s → caller_of event < length s.turns.callers
    → ChangesOnly s (happens s event) (caller_of event) (is_leave event)
happens_only s event sound there = by_test (is_possible s event) where
  by_test : (b : Bool) → ChangesOnly s (cond b (effect s event) s) (caller_of event) (is_leave event)
  by_test true = only_who s event (same_callers s sound) there
  by_test false = ChangesOnly-refl s (caller_of event) (is_leave event)

pub IsSound-happens : (s : Phases) (event : Event) → IsSound s → caller_of event < length s.turns.callers
    → NamesObjects (length s.objects) event → IsSound (happens s event)
IsSound-happens s event sound there named = by_test (is_possible s event) refl where
  by_test : (b : Bool) → is_possible s event ≡ b → IsSound (cond b (effect s event) s)
  by_test true possible = event_keeps s event sound there named possible
  by_test false possible = sound

-- the range of events stays
stays_in_range : (s : Phases) (event : Event) (events : List Event) → IsSound s → caller_of event < length s.turns.callers
    → AreInRange (length s.turns.callers) (length s.objects) events
    → AreInRange (length (happens s event).turns.callers) (length (happens s event).objects) events
stays_in_range s event events sound there in_range =
    let only = happens_only s event sound there in rw (only.many_turns, only.many_objects) in_range

pub IsSound-run : (events : List Event) (s : Phases) → IsSound s → AreInRange (length s.turns.callers) (length s.objects) events
    → IsSound (run events s)
IsSound-run [] s sound in_range = sound
IsSound-run (event ∷ events) s sound in_range =
    IsSound-run events (happens s event) (IsSound-happens s event sound in_range.0 in_range.1)
    (stays_in_range s event events sound in_range.0 in_range.2)

pub reached_sound : (s : Phases) → IsReached s → IsSound s
reached_sound s reached =
    rw reached.result (IsSound-run reached.events (new_phases reached.procs reached.plans reached.callers)
    (IsSound-new reached.procs reached.plans reached.callers reached.plan)
    (rw (length-map, length-map) reached.in_range))

-- where MOVE is set nobody is inside

moving_moved : (b : Bits) (shapes : List Shape) (layout incarnation : ℕ) (stage : SwapAt) → BitsFollow b shapes layout incarnation stage → b.moving ≡ true
    → (is_closed stage ≡ true) × (has_moved stage ≡ true)
moving_moved b shapes layout incarnation Idle bits e = let m = bits.1 in absurd (cc)
moving_moved b shapes layout incarnation (Moved o) bits e = (refl, refl)
moving_moved b shapes layout incarnation (Reopening o p) bits e = let m = bits.1 in absurd (cc)
moving_moved b shapes layout incarnation (Opened o) bits e =
    ⊎_elim (λ clear. let m = clear.1 in absurd (cc)) (λ complete. let m = complete.0.1 in absurd (cc)) bits
moving_moved b shapes layout incarnation stage bits e = let m = bits.0.1 in absurd (cc)

pub moving_alone : (s : Phases) (c o : ℕ) → IsSound s → c < length s.turns.callers → o < length s.objects
    → (object_at s o).moving ≡ true → (i : ℕ) → ¬ IsInside (visitor_at s c).place o i
moving_alone s c o sound there named moving i = by_place (visitor_at s c).place is.at_place where
  at_x : slice_get s.callers c ≡ Some (visitor_at s c)
  at_x = slice_get-get_or s.callers c fresh_visitor (rw (same_callers s sound) there)

  is : IsVisitor sound.scene c (caller_at s.turns c) (visitor_at s c)
  is = sound.in_scene.visitors c (caller_at s.turns c) (visitor_at s c) (slice_get-get_or s.turns.callers c _ there) at_x

  stage : (is_closed (sound.scene.looks o).stage ≡ true) × (has_moved (sound.scene.looks o).stage ≡ true)
  stage =
      let object = sound.in_scene.objects o (object_at s o) (slice_get-get_or s.objects o fresh_object named) in
      moving_moved (bits_of (object_at s o)) (object_at s o).shapes (object_at s o).layout (object_at s o).incarnation (sound.scene.looks o).stage object.bits_follow.bits moving

  by_place : (place : Place) → IsAtPlace sound.scene (caller_at s.turns c) (visitor_at s c).read place → IsInside place o i → ⊥
  by_place Out at inside = inside
  by_place (Missed q j) at inside =
      let not = at.2.not_closed in
      let closed : is_closed (sound.scene.looks q).stage ≡ true = rw inside.0 stage.0 in absurd (cc)
  by_place (Direct q j) at inside =
      let not = at.2.not_closed in
      let closed : is_closed (sound.scene.looks q).stage ≡ true = rw inside.0 stage.0 in absurd (cc)
  by_place (AtMediator q) at inside = inside
  by_place (Tracked q j) at inside =
      let not = at.2 in
      let has : has_moved (sound.scene.looks q).stage ≡ true = rw inside.0 stage.1 in absurd (cc)
  by_place (Blocked q) at inside = inside

-- a row that an activity has read is not freed before that activity has left

from_is_leave : (event : Event) (c : ℕ) → is_leave event ≡ true → caller_of event ≡ c → event ≡ Turn (Leave c)
from_is_leave (Turn (Leave d)) c leaves same = ap (λ e. Turn (Leave e)) same
from_is_leave event c leaves same = absurd (cc)

-- one event: the row stays read, or the caller left
read_or_left : (s : Phases) (event : Event) (c o i : ℕ) → IsSound s → caller_of event < length s.turns.callers
    → HasRead s c o i → c < length s.turns.callers
    → ((event ≡ Turn (Leave c)) × (is_possible s event ≡ true)) ⊎ HasRead (happens s event) c o i
read_or_left s event c o i sound there has there' = by_test (is_possible s event) refl where
  by_test : (b : Bool) → is_possible s event ≡ b
      → ((event ≡ Turn (Leave c)) × (b ≡ true)) ⊎ HasRead (cond b (effect s event) s) c o i
  by_test false possible = inr has
  by_test true possible =
      let only = only_who s event (same_callers s sound) there in
      ⊎_elim
      (λ (same : c ≡ caller_of event). by_leave same (is_leave event) refl)
      (λ (other : c ≢ caller_of event).
      let before = slice_get-get_or s.callers c fresh_visitor (rw (same_callers s sound) there') in
      let after = only.other_callers c other ∙ before in
      inr (rw (get_or_from_slice_get (effect s event).callers c (visitor_at s c) _ after) has))
      (cases_eq c (caller_of event))
    where
      by_leave : c ≡ caller_of event → (leaves : Bool) → is_leave event ≡ leaves
          → ((event ≡ Turn (Leave c)) × (true ≡ true)) ⊎ HasRead (effect s event) c o i
      by_leave same true leaves = inl (from_is_leave event c leaves (sym same), refl)
      by_leave same false leaves =
          let only = only_who s event (same_callers s sound) there in
          inr (subst (λ d. HasRead (effect s event) d o i) (sym same) (only.rows leaves o i (subst (λ d. HasRead s d o i) same has)))

-- in a sound state a row that was read is not freed
pub read_unfreed : (s : Phases) (c o i : ℕ) → IsSound s → c < length s.turns.callers → o < length s.objects
    → HasRead s c o i → (object_at s o).freed ≤ i
read_unfreed s c o i sound there named has =
    let at_x = slice_get-get_or s.callers c fresh_visitor (rw (same_callers s sound) there) in
    let is = sound.in_scene.visitors c (caller_at s.turns c) (visitor_at s c) (slice_get-get_or s.turns.callers c _ there) at_x in
    let object = sound.in_scene.objects o (object_at s o) (slice_get-get_or s.objects o fresh_object named) in
    let kept = (is.rows_read o i has).kept in
    omega (arith, kept, object.bits_follow.freed)

occurs_here : (event : Event) (events : List Event) (s : Phases) → is_possible s event ≡ true → Occurs event (event ∷ events) s
occurs_here event events s possible = record { before = []; after = events; split = refl; possible = possible }

occurs_later : (event first : Event) (events : List Event) (s : Phases) → Occurs event events (happens s first)
    → Occurs event (first ∷ events) s
occurs_later event first events s later =
    record { before = first ∷ later.before; after = later.after; split = ap (λ l. first ∷ l) later.split; possible = later.possible }

-- no event frees a row that stays read
unfreed : (s : Phases) (event : Event) (c o i : ℕ) → IsSound s → caller_of event < length s.turns.callers
    → NamesObjects (length s.objects) event → c < length s.turns.callers → HasRead s c o i
    → FreesRow s (happens s event) o i → ⊥
unfreed s event c o i sound there named there' has frees =
    ⊎_elim
    (λ (left : (event ≡ Turn (Leave c)) × (is_possible s event ≡ true)).
    let same : object_at (happens s event) o ≡ object_at s o =
    subst (λ e. object_at (happens s e) o ≡ object_at s o) (sym left.0) ((happens_after s (Turn (Leave c))).others o (λ e. cc)) in
    let kept = frees.kept in
    let freed : i < (object_at s o).freed = rw (← same) frees.freed in
    omega (arith, kept, freed))
    (λ (still : HasRead (happens s event) c o i).
    let only = happens_only s event sound there in
    ⊎_elim
    (λ (within : o < length (happens s event).objects).
    let kept = read_unfreed (happens s event) c o i (IsSound-happens s event sound there named) (rw only.many_turns there') within still in
    let freed = frees.freed in
    omega (arith, kept, freed))
    (λ (past : length (happens s event).objects ≤ o).
    let none : object_at (happens s event) o ≡ fresh_object = get_or_past (happens s event).objects o fresh_object past in
    let freed : i < 0 = rw none at frees.freed in
    omega (arith, freed))
    (cases_lt o (length (happens s event).objects)))
    (read_or_left s event c o i sound there has there')

pub freed_after_leaving : (events : List Event) (s : Phases) (freeing : Event) (c o i : ℕ) → IsSound s
    → AreInRange (length s.turns.callers) (length s.objects) (events ++ freeing ∷ [])
    → c < length s.turns.callers → HasRead s c o i
    → FreesRow (run events s) (happens (run events s) freeing) o i → HasLeft s events c
freed_after_leaving [] s freeing c o i sound in_range there has frees =
    absurd (unfreed s freeing c o i sound in_range.0 in_range.1 there has frees)
freed_after_leaving (event ∷ events) s freeing c o i sound in_range there has frees =
    let only = happens_only s event sound in_range.0 in
    ⊎_elim
    (λ (left : (event ≡ Turn (Leave c)) × (is_possible s event ≡ true)).
    subst (λ e. Occurs e (event ∷ events) s) left.0 (occurs_here event events s left.1))
    (λ (still : HasRead (happens s event) c o i).
    occurs_later (Turn (Leave c)) event events s
    (freed_after_leaving events (happens s event) freeing c o i (IsSound-happens s event sound in_range.0 in_range.1)
    (stays_in_range s event (events ++ freeing ∷ []) sound in_range.0 in_range.2)
    (rw only.many_turns there) still frees))
    (read_or_left s event c o i sound in_range.0 has there)

-- a caller has read at most two rows of each object
pub few_rows_read : (s : Phases) (c : ℕ) → IsSound s → c < length s.turns.callers → length (visitor_at s c).read ≤ 2 * length s.objects
few_rows_read s c sound there =
    let at_x = slice_get-get_or s.callers c fresh_visitor (rw (same_callers s sound) there) in
    let is = sound.in_scene.visitors c (caller_at s.turns c) (visitor_at s c) (slice_get-get_or s.turns.callers c _ there) at_x in
    rw sound.in_scene.many_objects
    (few_rows (visitor_at s c).read sound.scene.objects (λ o. (sound.scene.looks o).incarnation) is.read_once.there is.read_once.once
    (λ o i has. (is.rows_read o i has).recent))
