-- What an event of tables and swaps leaves of objects and callers, for the facts on cells and on answers.
use Rattle.std.proofs.Common.{◌≡◌, ℕ, ◌<◌, ◌≢◌, true, false, length, refl, subst}
use Rattle.std.proofs.lemmas.List.{get_or-set_same, get_or-set_other}
use Rattle.std.proofs.lemmas.Bool.{and_parts}
use Rattle.phase_core.specs.Consequences.{object_changed, IsSameRow}
use Rattle.phase_core.specs.Effects.{turned_over}
use Rattle.phase_core.specs.Event.{Event, TurnOver, caller_of}
use Rattle.phase_core.specs.Events.{is_possible, effect, happens}
use Rattle.phase_core.specs.Plain.{Phases}
use Rattle.phase_core.specs.Sound.{IsSound}
use Rattle.phase_core.specs.Stages.{object_named, is_moved}
use Rattle.phase_core.specs.State.{fresh_object, object_at, visitor_at}
use Rattle.phase_core.specs.declared.caller.SwapAt.TheVariants.{Moved}
use Rattle.phase_core.proofs.Alone.{ChangesOnly, only_who, is_leave}
use Rattle.phase_core.proofs.Changed.{turns_over, ObjectAfter, happens_after}
use Rattle.phase_core.proofs.Reached.{same_callers, turn_there}
use Rattle.k42_joined.proofs.Lends.{from_is_moved}

pub happened : (s : Phases) (event : Event) → is_possible s event ≡ true → happens s event ≡ effect s event
happened s event possible = rw possible refl

pub object_after : (s : Phases) (event : Event) → is_possible s event ≡ true
    → ObjectAfter (turns_over event) s (effect s event) (object_changed s event)
object_after s event possible =
    subst (λ t. ObjectAfter (turns_over event) s t (object_changed s event)) (happened s event possible) (happens_after s event)

pub only_its_caller : (s : Phases) (event : Event) → IsSound s → caller_of event < length s.callers
    → ChangesOnly s (effect s event) (caller_of event) (is_leave event)
only_its_caller s event sound there = only_who s event (same_callers s sound) (turn_there s sound (caller_of event) there)

pub row_else : (s : Phases) (event : Event) → is_possible s event ≡ true → turns_over event ≡ false → (o : ℕ)
    → IsSameRow (object_at s o) (object_at (effect s event) o)
row_else s event possible not o = ((object_after s event possible).goes o).row not

-- each object keeps its layouts
pub shapes_else : (s : Phases) (event : Event) → is_possible s event ≡ true → (o : ℕ)
    → (object_at (effect s event) o).shapes ≡ (object_at s o).shapes
shapes_else s event possible o = ((object_after s event possible).goes o).shapes

-- the object that is turned over, and any other

pub turns_its : (s : Phases) (c tag : ℕ) → is_possible s (TurnOver c tag) ≡ true
    → (visitor_at s c).swap ≡ Moved (object_named (visitor_at s c).swap)
turns_its s c tag possible = from_is_moved (visitor_at s c).swap (and_parts (is_moved (visitor_at s c).swap) _ possible).0

pub turned_here : (s : Phases) (c tag : ℕ) → object_named (visitor_at s c).swap < length s.objects
    → object_at (effect s (TurnOver c tag)) (object_named (visitor_at s c).swap)
    ≡ turned_over (object_at s (object_named (visitor_at s c).swap)) tag
turned_here s c tag named =
    let q = object_named (visitor_at s c).swap in
    get_or-set_same s.objects q (turned_over (object_at s q) tag) fresh_object named

pub turned_else : (s : Phases) (c tag o : ℕ) → o ≢ object_named (visitor_at s c).swap
    → object_at (effect s (TurnOver c tag)) o ≡ object_at s o
turned_else s c tag o other =
    let q = object_named (visitor_at s c).swap in
    get_or-set_other s.objects q o (turned_over (object_at s q) tag) fresh_object other
