-- Which object an event changes, and what of it.
use Rattle.std.proofs.Common.{◌≡◌, ℕ, ◌≤◌, ◌≢◌, ◌∙◌, Bool, true, false, cond, ltb, eqb, List, [], ◌∷◌, Option, Some, None, set, sym, refl, ap, arith}
use Rattle.std.proofs.Math.Nat.{le_refl, le_trans}
use Rattle.std.specs.Option.{unwrap_or}
use Rattle.std.proofs.lemmas.List.{get_or-set_other}
use Rattle.std.proofs.lemmas.Option.{same_Some}
use Rattle.std.proofs.lemmas.Bool.{and_parts, false≢true, ltb-true}
use Rattle.k42_places.proofs.Written.{get_or-set_related}
use Rattle.gen_core.specs.State.{proc_at, caller_at}
use Rattle.gen_core.specs.Events as turns
use Rattle.gen_core.proofs.Alone.{no_generation_falls}
use Rattle.phase_core.specs.Consequences.{object_changed, NeverFalls, KeepsShapes, TurnsOver, IsSameRow}
use Rattle.phase_core.specs.Effects.{is_empty_at}
use Rattle.phase_core.specs.Event.{Event, Turn, TakeRoleWith, LookUp, RootLoad, Install, Knock, StepOut, EndCall, Begin, Interpose, Block, Move, TurnOver, Unblock, Open, Clear, Free}
use Rattle.phase_core.specs.Events.{taken_with, interposed, opened, is_possible, effect, happens}
use Rattle.phase_core.specs.Plain.{Object, Visitor, Phases}
use Rattle.phase_core.specs.Runs.{run}
use Rattle.phase_core.specs.Stages.{named_by, object_named, object_of, row_of, is_drained, is_blocking, is_moved, is_ended}
use Rattle.phase_core.specs.State.{fresh_object, object_at, visitor_at, entry_at, proc_of, put_object, put_visitor, note_at}
use Rattle.phase_core.specs.declared.caller.SwapAt.{SwapAt}
use Rattle.phase_core.specs.declared.caller.SwapAt.TheVariants.{Idle, Refused, Begun, Interposing, Interposed, Draining, Drained, Blocking, Moved, Opening, Reopening, Opened}

abbrev pub turns_over : Event → Bool
turns_over (TurnOver c layout) = true
turns_over event = false

-- what an object becomes
pub record GoesOn (over : Bool) (k l : Object) : Type 0 where
  pub shapes : l.shapes ≡ k.shapes
  pub freed : k.freed ≤ l.freed
  pub incarnation : k.incarnation ≤ l.incarnation
  pub row : over ≡ false → IsSameRow k l

GoesOn-refl : (over : Bool) (k : Object) → GoesOn over k k
GoesOn-refl over k = record { shapes = refl; freed = le_refl k.freed; incarnation = le_refl k.incarnation; row = λ e. record { incarnation = refl; layout = refl } }

-- what an event that may change one object makes of each
pub record ObjectAfter (over : Bool) (s t : Phases) (changed : Option ℕ) : Type 0 where
  pub goes : (o : ℕ) → GoesOn over (object_at s o) (object_at t o)
  pub others : (o : ℕ) → changed ≢ Some o → object_at t o ≡ object_at s o
  pub generations : (p : ℕ) → (proc_at s.turns p).generation ≤ (proc_at t.turns p).generation

module _ (s : Phases) where
  same_objects : (over : Bool) (changed : Option ℕ) (t : Phases) → t.objects ≡ s.objects
      → ((p : ℕ) → (proc_at s.turns p).generation ≤ (proc_at t.turns p).generation) → ObjectAfter over s t changed
  same_objects over changed t same rise = record {
    goes = λ o. rw same (GoesOn-refl over (object_at s o));
    others = λ o other. rw same refl;
    generations = rise;
  }

  -- the generations are as they were
  still : (p : ℕ) → (proc_at s.turns p).generation ≤ (proc_at s.turns p).generation
  still p = le_refl (proc_at s.turns p).generation

  -- one object is written
  put_after : (over : Bool) (q : ℕ) (l : Object) (t : Phases) → t.objects ≡ set s.objects q l → t.turns ≡ s.turns → GoesOn over (object_at s q) l
      → ObjectAfter over s t (Some q)
  put_after over q l t same turns_same goes = record {
    goes = λ o. rw same (get_or-set_related (GoesOn over) (GoesOn-refl over) s.objects q o l fresh_object goes);
    others = λ o other. rw same (get_or-set_other s.objects q o l fresh_object (λ e. other (ap (λ n. Some n) (sym e))));
    generations = λ p. rw turns_same (still p);
  }

  -- neither the row nor what is freed of it changes
  kept_after : (q : ℕ) (l : Object) (t : Phases) → t.objects ≡ set s.objects q l → t.turns ≡ s.turns
      → l.freed ≡ (object_at s q).freed → l.incarnation ≡ (object_at s q).incarnation → l.layout ≡ (object_at s q).layout
      → l.shapes ≡ (object_at s q).shapes
      → ObjectAfter false s t (Some q)
  kept_after q l t same turns_same freed incarnation layout shapes =
      put_after false q l t same turns_same
      (record { shapes = shapes; freed = omega (arith, freed); incarnation = omega (arith, incarnation); row = λ e. record { incarnation = incarnation; layout = layout } })

  either : (over b : Bool) (changed : Option ℕ) (t u : Phases) → ObjectAfter over s t changed → ObjectAfter over s u changed
      → ObjectAfter over s (cond b t u) changed
  either over true changed t u first second = first
  either over false changed t u first second = second

  interposed_after : (c : ℕ) (swap : SwapAt) → ObjectAfter false s (interposed s c swap) (named_by swap)
  interposed_after c (Begun q) = kept_after q _ _ refl refl refl refl refl refl
  interposed_after c (Interposing q p) = kept_after q _ _ refl refl refl refl refl refl
  interposed_after c swap = same_objects false (named_by swap) s refl still

  opened_after : (c : ℕ) (swap : SwapAt) → ObjectAfter false s (opened s c swap) (named_by swap)
  opened_after c (Opening q p) = kept_after q _ _ refl refl refl refl refl refl
  opened_after c (Reopening q p) = kept_after q _ _ refl refl refl refl refl refl
  opened_after c swap = same_objects false (named_by swap) s refl still

  taken_after : (c : ℕ) (notes : List (ℕ × ℕ)) (role : Option ℕ) → ObjectAfter false s (taken_with s c notes role) None
  taken_after c notes None = same_objects false None _ refl still
  taken_after c notes (Some holder) = same_objects false None s refl still

  freed_after : (c q n : ℕ) (x : Visitor) (b : Bool) → ltb (object_at s q).freed n ≡ b
      → ObjectAfter false s (cond b (put_object (put_visitor s c x) q (record (object_at s q) { freed = n })) s) (Some q)
  freed_after c q n x true more =
      let less = ltb-true (object_at s q).freed n more in
      put_after false q _ _ refl refl
      (record { shapes = refl; freed = omega (arith, less); incarnation = le_refl (object_at s q).incarnation; row = λ e. record { incarnation = refl; layout = refl } })
  freed_after c q n x false more = same_objects false (Some q) s refl still

-- a swap that is under way names its object

under_way : (test : SwapAt → Bool) → test Idle ≡ false → (swap : SwapAt) → test swap ≡ true → named_by swap ≡ Some (object_named swap)
under_way test idle Idle passes = absurd (false≢true (sym idle ∙ passes))
under_way test idle (Refused o) passes = refl
under_way test idle (Begun o) passes = refl
under_way test idle (Interposing o p) passes = refl
under_way test idle (Interposed o) passes = refl
under_way test idle (Draining o) passes = refl
under_way test idle (Drained o) passes = refl
under_way test idle (Blocking o) passes = refl
under_way test idle (Moved o) passes = refl
under_way test idle (Opening o p) passes = refl
under_way test idle (Reopening o p) passes = refl
under_way test idle (Opened o) passes = refl

effect_after : (s : Phases) (event : Event) → is_possible s event ≡ true
    → ObjectAfter (turns_over event) s (effect s event) (object_changed s event)
effect_after s (Turn event) possible =
    same_objects s false None _ refl
    (λ p. rw (and_parts (turns.is_possible s.turns event) _ possible).0 at (no_generation_falls (event ∷ []) s.turns p))
effect_after s (TakeRoleWith c notes) possible = taken_after s c notes s.turns.role
effect_after s (LookUp c q) possible = same_objects s false None _ refl (still s)
effect_after s (RootLoad c q) possible = same_objects s false None s refl (still s)
effect_after s (Install c q) possible =
    either s false (is_empty_at (entry_at (object_at s q) (proc_of s c)) (row_of (visitor_at s c).place)) (Some q) _ _
    (kept_after s q _ _ refl refl refl refl refl refl) (same_objects s false (Some q) _ refl (still s))
effect_after s (Knock c q) possible = kept_after s q _ _ refl refl refl refl refl refl
effect_after s (StepOut c) possible = kept_after s (object_of (visitor_at s c).place) _ _ refl refl refl refl refl refl
effect_after s (EndCall c) possible = same_objects s false None _ refl (still s)
effect_after s (Begin c q) possible =
    either s false (object_at s q).swap (Some q) _ _ (same_objects s false (Some q) s refl (still s)) (kept_after s q _ _ refl refl refl refl refl refl)
effect_after s (Interpose c) possible = interposed_after s c (visitor_at s c).swap
effect_after s (Block c) possible =
    rw (under_way is_drained refl (visitor_at s c).swap (and_parts (turns.is_idle (caller_at s.turns c).grace) _ possible).1)
    (kept_after s (object_named (visitor_at s c).swap) _ _ refl refl refl refl refl refl)
effect_after s (Move c) possible =
    rw (under_way is_blocking refl (visitor_at s c).swap possible)
    (either s false (eqb (object_at s (object_named (visitor_at s c).swap)).count 0) (Some (object_named (visitor_at s c).swap)) _ _
    (kept_after s (object_named (visitor_at s c).swap) _ _ refl refl refl refl refl refl) (same_objects s false _ s refl (still s)))
effect_after s (TurnOver c layout) possible =
    rw (under_way is_moved refl (visitor_at s c).swap (and_parts (is_moved (visitor_at s c).swap) _ possible).0)
    (put_after s true (object_named (visitor_at s c).swap) _ _ refl refl
    (record { shapes = refl; freed = le_refl (object_at s (object_named (visitor_at s c).swap)).freed; incarnation = omega arith; row = λ e. absurd (cc) }))
effect_after s (Unblock c) possible =
    rw (under_way is_moved refl (visitor_at s c).swap possible)
    (kept_after s (object_named (visitor_at s c).swap) _ _ refl refl refl refl refl refl)
effect_after s (Open c) possible = opened_after s c (visitor_at s c).swap
effect_after s (Clear c) possible =
    rw (under_way is_ended refl (visitor_at s c).swap possible)
    (kept_after s (object_named (visitor_at s c).swap) _ _ refl refl refl refl refl refl)
effect_after s (Free c q) possible = freed_after s c q (unwrap_or (note_at (visitor_at s c).noted q) 0) _ _ refl

-- so does an event, possible or not
pub happens_after : (s : Phases) (event : Event) → ObjectAfter (turns_over event) s (happens s event) (object_changed s event)
happens_after s event = by_test (is_possible s event) refl where
  by_test : (b : Bool) → is_possible s event ≡ b → ObjectAfter (turns_over event) s (cond b (effect s event) s) (object_changed s event)
  by_test true possible = effect_after s event possible
  by_test false possible = same_objects s (turns_over event) (object_changed s event) s refl (still s)

-- the layouts of each object stay
pub shapes_stay : (s : Phases) (event : Event) → KeepsShapes s (happens s event)
shapes_stay s event o = ((happens_after s event).goes o).shapes

pub nothing_falls : (events : List Event) (s : Phases) → NeverFalls s (run events s)
nothing_falls [] s = record {
  generations = λ p. le_refl (proc_at s.turns p).generation;
  incarnations = λ o. le_refl (object_at s o).incarnation;
  freed = λ o. le_refl (object_at s o).freed;
}
nothing_falls (event ∷ events) s =
    let first = happens_after s event in
    let rest = nothing_falls events (happens s event) in
    record {
      generations = λ p. le_trans (first.generations p) (rest.generations p);
      incarnations = λ o. le_trans (first.goes o).incarnation (rest.incarnations o);
      freed = λ o. le_trans (first.goes o).freed (rest.freed o);
    }

-- the row of an object moves as it is turned over

from_is_moved : (swap : SwapAt) (o : ℕ) → is_moved swap ≡ true → object_named swap ≡ o → swap ≡ Moved o
from_is_moved (Moved q) o moved same = ap (λ n. Moved n) same
from_is_moved swap o moved same = absurd (cc)

same_row_else : (s : Phases) (c layout o : ℕ) → is_possible s (TurnOver c layout) ≡ true → ((visitor_at s c).swap ≡ Moved o → ⊥)
    → IsSameRow (object_at s o) (object_at (effect s (TurnOver c layout)) o)
same_row_else s c layout o possible else =
    let moved = (and_parts (is_moved (visitor_at s c).swap) _ possible).0 in
    let names = under_way is_moved refl (visitor_at s c).swap moved in
    let other : object_at (effect s (TurnOver c layout)) o ≡ object_at s o =
    (effect_after s (TurnOver c layout) possible).others o
    (λ e. else (from_is_moved (visitor_at s c).swap o moved (same_Some (object_named (visitor_at s c).swap) o (sym names ∙ e)))) in
    record { incarnation = ap (λ k. k.incarnation) other; layout = ap (λ k. k.layout) other }

pub row_stays : (s : Phases) (event : Event) (o : ℕ) → ¬ TurnsOver s event o → IsSameRow (object_at s o) (object_at (happens s event) o)
row_stays s (TurnOver c layout) o else = by_test (is_possible s (TurnOver c layout)) refl where
  by_test : (b : Bool) → is_possible s (TurnOver c layout) ≡ b → IsSameRow (object_at s o) (object_at (cond b (effect s (TurnOver c layout)) s) o)
  by_test true possible = same_row_else s c layout o possible else
  by_test false possible = record { incarnation = refl; layout = refl }
row_stays s (Turn event) o else = ((happens_after s (Turn event)).goes o).row refl
row_stays s (TakeRoleWith c notes) o else = ((happens_after s (TakeRoleWith c notes)).goes o).row refl
row_stays s (LookUp c q) o else = ((happens_after s (LookUp c q)).goes o).row refl
row_stays s (RootLoad c q) o else = ((happens_after s (RootLoad c q)).goes o).row refl
row_stays s (Install c q) o else = ((happens_after s (Install c q)).goes o).row refl
row_stays s (Knock c q) o else = ((happens_after s (Knock c q)).goes o).row refl
row_stays s (StepOut c) o else = ((happens_after s (StepOut c)).goes o).row refl
row_stays s (EndCall c) o else = ((happens_after s (EndCall c)).goes o).row refl
row_stays s (Begin c q) o else = ((happens_after s (Begin c q)).goes o).row refl
row_stays s (Interpose c) o else = ((happens_after s (Interpose c)).goes o).row refl
row_stays s (Block c) o else = ((happens_after s (Block c)).goes o).row refl
row_stays s (Move c) o else = ((happens_after s (Move c)).goes o).row refl
row_stays s (Unblock c) o else = ((happens_after s (Unblock c)).goes o).row refl
row_stays s (Open c) o else = ((happens_after s (Open c)).goes o).row refl
row_stays s (Clear c) o else = ((happens_after s (Clear c)).goes o).row refl
row_stays s (Free c q) o else = ((happens_after s (Free c q)).goes o).row refl
