-- What the rule tells of every state that the table shows.
use Rattle.std.proofs.Common.{◌≡◌, ℕ, ◌≤◌, Bool, true, false, cond, List, [], ◌∷◌, Option, Some, None, sym, refl, ap, ◌∙◌, subst}
use Rattle.std.specs.Prelude.{unwrap_or, IsTrue}
use Rattle.std.proofs.Common.{le_refl}
use mathlib.Core.Option.{some}
use lib.ListN.{get_elem?}
use Rattle.atomic_table.specs.Table.{State}
use Rattle.phase_core.specs.Events as phases
use Rattle.phase_core.specs.Plain.{Phases}
use Rattle.phase_core.specs.State.{object_at}
use Rattle.phase_core.specs.Stages.{IsInside, object_of, row_of}
use Rattle.phase_core.specs.declared.caller.Place.{Place}
use Rattle.phase_core.specs.declared.caller.Place.TheVariants.{Out, Missed, Direct, AtMediator, Tracked, Blocked}
use Rattle.phase_core.proofs.Changed.{nothing_falls}
use Rattle.phase_core.proofs.InSound.{inside_is_present}
use Rattle.k42_stamp.specs.Layouts.{Layouts}
use Rattle.k42_joined.specs.Effects.{effect}
use Rattle.k42_joined.specs.Event.{Event, AtPhases, AtCells, HandWith}
use Rattle.k42_joined.specs.Plain.{Joined}
use Rattle.k42_joined.specs.Possible.{IsPossible}
use Rattle.k42_joined.specs.State.{object}
use Rattle.k42_board.specs.Cells.{Slot}
use Rattle.k42_rule.specs.Laws.{IsPresent, Names, KeepsFreed, StepKeepsFreed}
use Rattle.k42_board.specs.Phases.{is_served}
use Rattle.k42_board.specs.Rule.{Beside, KnowsPass, Knows, Rule}
use Rattle.k42_board.specs.Steps.{StepIs}
use Rattle.k42_board.specs.declared.view.PassView.{PassView}
use Rattle.k42_board.specs.declared.view.Row.{Row}
use Rattle.k42_board.specs.declared.view.View.{View}
use Rattle.k42_board.specs.declared.view.View.TheVariants.{Crew, Drew, Kept, Named, Spent}

-- a served pass is inside the row of its place
served_inside : (place : Place) → is_served place ≡ true → IsInside place (object_of place) (row_of place)
served_inside (Direct o i) e = (refl, refl)
served_inside (Tracked o i) e = (refl, refl)
served_inside Out e = absurd (cc)
served_inside (Missed o i) e = absurd (cc)
served_inside (AtMediator o) e = absurd (cc)
served_inside (Blocked o) e = absurd (cc)

learned_is : (layout : Option ℕ) (n : ℕ) → (layout ≡ None → ⊥) → ((l : ℕ) → layout ≡ Some l → n ≡ l) → unwrap_or layout 0 ≡ n
learned_is None n there is = absurd (there refl)
learned_is (Some l) n there is = sym (is l refl)

when_true : {A : Type 0} (b : Bool) (x y : A) → IsTrue b → cond b x y ≡ x
when_true true x y e = refl
when_true false x y e = absurd (cc)

-- an event frees rows, and takes none back
event_keeps_freed : {S L P O R : Type 0} (F : Layouts S L P O R) (declared : List L) (s : Joined L O R) (event : Event L O R) → IsPossible F declared s event
    → KeepsFreed s (effect s event)
event_keeps_freed F declared s (AtPhases event) possible o =
    subst (λ (t : Phases). (object_at s.phases o).freed ≤ (object_at t o).freed)
    (when_true (phases.is_possible s.phases event) (phases.effect s.phases event) s.phases possible.may.core)
    ((nothing_falls (event ∷ []) s.phases).freed o)
event_keeps_freed F declared s (AtCells event) possible o = le_refl (object s o).freed
event_keeps_freed F declared s (HandWith c from onto layout entry) possible o = le_refl (object s o).freed

module _ {S L P O R : Type 0} (F : Layouts S L P O R) (declared : List L) where
  pub present : (table : State (Slot P O R) (View P O R)) (rule : Rule F declared table) (id : ℕ) (v : PassView P O R)
      → get_elem? table.views id ≡ some (Crew (v ∷ [])) → is_served v.visitor.place ≡ true → IsPresent v rule.state
  present table rule id v at served = record {
    incarnation_is = (inside_is_present rule.state.phases rule.sound.phases v.number (object_of v.visitor.place) (row_of v.visitor.place) knows.there (rw knows.phases.visitor inside)).1;
    layout_is = learned_is v.layout (object rule.state (object_of v.visitor.place)).layout (knows.phases.learned served)
        (λ l is. knows.phases.layout l (object_of v.visitor.place) (row_of v.visitor.place) is inside);
  } where
    knows : KnowsPass F.tag_of rule.state rule.beside id v
    knows = (rule.seats id (Crew (v ∷ [])) at).1 0 v refl

    inside : IsInside v.visitor.place (object_of v.visitor.place) (row_of v.visitor.place)
    inside = served_inside v.visitor.place served

  pub step_keeps_freed : (event : Event L O R) (word : ℕ) (changed : ℕ → ℕ) (id : ℕ) (v : PassView P O R) (found : ℕ) (w : PassView P O R)
      → StepIs F declared event word changed id v found w → StepKeepsFreed F declared word changed id v found w
  step_keeps_freed event word changed id v found w step table r at is =
      let after = step table r at is in
      (after.0, subst (KeepsFreed r.state) (sym after.1) (event_keeps_freed F declared r.state event after.2))

-- the seat of a view is that of each row that it names
named_at : {L P O R : Type 0} (tag_of : L → ℕ) (s : Joined L O R) (beside : Beside P) (id : ℕ) (view : View P O R) (row : Row) → Knows tag_of s beside id view
    → Names view row → beside.row_seat row ≡ id
named_at tag_of s beside id (Crew passes) row knows names = (knows.1 names.0 names.2 names.3).names.named names.1 row names.4
named_at tag_of s beside id (Named named) row knows names = ap beside.row_seat (sym names) ∙ knows.1
named_at tag_of s beside id (Kept told) row knows names = absurd names
named_at tag_of s beside id (Drew stamp) row knows names = absurd names
named_at tag_of s beside id Spent row knows names = absurd names

pub one_name : {S L P O R : Type 0} (F : Layouts S L P O R) (declared : List L) (table : State (Slot P O R) (View P O R)) (rule : Rule F declared table) (row : Row)
    (i j : ℕ) (v w : View P O R) → get_elem? table.views i ≡ some v → get_elem? table.views j ≡ some w → Names v row → Names w row → i ≡ j
one_name F declared table rule row i j v w at at' names names' =
    sym (named_at F.tag_of rule.state rule.beside i v row (rule.seats i v at) names)
    ∙ named_at F.tag_of rule.state rule.beside j w row (rule.seats j w at') names'
