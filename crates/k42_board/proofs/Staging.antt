-- A swap that goes to a stage, and whose object changes with it, as a step of one pass.
use Rattle.std.proofs.Common.{◌≡◌, ◌≢◌, ℕ, ◌+◌, ◌<◌, ◌≤◌, Bool, true, false, ◌||◌, eqb, List, [], ◌∷◌, Option, Some, None, length, set, sym, refl, ap, ◌∙◌, subst, arith, le_refl, take, length-set, get_or-set_same, get_or-set_other}
use Rattle.std.specs.Option.{unwrap_or}
use Rattle.std.proofs.lemmas.Bool.{eq-eqb}
use Rattle.std.proofs.lemmas.Option.{same_Some}
use mathlib.Core.Option.{some}
use lib.ListN.{get_elem?}
use native.Mathlib.Decide.{ℕ_discrete}
use Rattle.atomic_table.specs.Table.{State}
use Rattle.k42_limits.specs.declared.TheConstants.{LAST_INCARNATION}
use Rattle.k42_places.specs.Places.{EachPlace}
use Rattle.k42_kinds.specs.declared.entry.Answer.{Answer}
use Rattle.k42_kinds.specs.declared.entry.Answer.TheVariants.{Spent, Gone}
use Rattle.phase_core.specs.Effects.{at_stage, is_over}
use Rattle.phase_core.specs.Event.{Event}
use Rattle.phase_core.specs.Events as phase_events
use Rattle.phase_core.specs.Objects.{BitsFollow, bits_of}
use Rattle.phase_core.specs.Plain.{Object, Visitor, Phases}
use Rattle.phase_core.specs.Stages.{IsInside, named_by, object_named, is_moved}
use Rattle.phase_core.specs.State.{object_at, visitor_at, span_at, fresh_object, fresh_visitor}
use Rattle.phase_core.specs.declared.caller.SwapAt.{SwapAt}
use Rattle.phase_core.proofs.InSound.{object_known, visitor_known, one_swap}
use Rattle.phase_core.proofs.Reached.{turn_there}
use Rattle.k42_stamp.specs.Laws.{AreLaws}
use Rattle.k42_stamp.specs.Layouts.{Layouts}
use Rattle.k42_joined.specs.Answers.{is_turned, IsTrueOf}
use Rattle.k42_joined.specs.Effects.{effect}
use Rattle.k42_joined.specs.Event.{AtPhases}
use Rattle.k42_joined.specs.Found.{tells_over}
use Rattle.k42_joined.specs.Plain.{Kept, Joined}
use Rattle.k42_joined.specs.Possible.{IsPossible}
use Rattle.k42_joined.specs.State.{many_callers, kept_of, is_handed}
use Rattle.k42_board.specs.Cells.{Slot}
use Rattle.k42_board.specs.Phases.{IsOld, KnowsSwap, KnowsRows}
use Rattle.k42_board.specs.Rule.{NamesRows, KnowsPass, Rule}
use Rattle.k42_board.specs.Swapping.{object_swapped}
use Rattle.k42_board.specs.Values.{layout_in, incarnation_in}
use Rattle.k42_board.specs.Views.{kept_in, begun_of, word_begun, object_begun, answer_begun, live_at}
use Rattle.k42_board.specs.declared.view.LastBegin.{LastBegin}
use Rattle.k42_board.specs.declared.view.PassView.{PassView}
use Rattle.k42_board.specs.declared.view.Row.{Row}
use Rattle.k42_board.specs.declared.view.View.{View}
use Rattle.k42_board.specs.declared.view.View.TheVariants.{Crew}
use Rattle.k42_board.proofs.AtTables.{visited, told, GoesOn, IsUndisturbed, IsSameRow, same_row, IsVisit, rows_stay, rows_told, own_after}
use Rattle.k42_board.proofs.OnePass.{known}

-- what becomes of an object, of which the state is so
pub record IsStaged {L O R : Type 0} (s : Joined L O R) (o : ℕ) (k' : Object) : Type 0 where
  pub shapes : k'.shapes ≡ (object_at s.phases o).shapes
  pub freed : k'.freed ≡ (object_at s.phases o).freed
  pub old :
      (i : ℕ) → i < (object_at s.phases o).incarnation
      → ((object_at s.phases o).complete ≡ true → i + 1 < (object_at s.phases o).incarnation)
      → (i < k'.incarnation) × (k'.complete ≡ true → i + 1 < k'.incarnation)
  pub inside :
      (d i : ℕ) → d < many_callers s → IsInside (visitor_at s.phases d).place o i → k'.layout ≡ (object_at s.phases o).layout
  pub freeing :
      (d : ℕ) → d < many_callers s → (span_at (visitor_at s.phases d).freeing o).0 < (span_at (visitor_at s.phases d).freeing o).1
      → k'.incarnation ≡ (object_at s.phases o).incarnation
  pub over : is_over (object_at s.phases o) ≡ true → k'.incarnation ≡ (object_at s.phases o).incarnation

-- an object that stays in its row
pub record StaysInRow (k k' : Object) : Type 0 where
  pub shapes : k'.shapes ≡ k.shapes
  pub layout : k'.layout ≡ k.layout
  pub incarnation : k'.incarnation ≡ k.incarnation
  pub freed : k'.freed ≡ k.freed
  pub complete : k'.complete ≡ true → k.complete ≡ true

pub stays_staged : {L O R : Type 0} (s : Joined L O R) (o : ℕ) (k' : Object) → StaysInRow (object_at s.phases o) k' → IsStaged s o k'
stays_staged s o k' stays = record {
  shapes = stays.shapes;
  freed = stays.freed;
  old = λ i lt ended. (rw stays.incarnation lt, λ done. rw stays.incarnation (ended (stays.complete done)));
  inside = λ d i there inside. stays.layout;
  freeing = λ d there some. stays.incarnation;
  over = λ e. stays.incarnation;
}

-- what is true of an object that is over
over_is : {R : Type 0} (k : Object) (i : ℕ) (answer : Answer R) → tells_over answer ≡ true → IsTrueOf k i answer → is_over k ≡ true
over_is k i Spent tells is = rw (eq-eqb k.incarnation LAST_INCARNATION is.1) (or_true (eqb k.layout (length k.shapes))) where
  or_true : (b : Bool) → b || true ≡ true
  or_true true = refl
  or_true false = refl
over_is k i Gone tells is = rw (eq-eqb k.layout (length k.shapes) is.1) refl
over_is k i answer tells is = absurd (cc)

module _ {S L P O R : Type 0} (F : Layouts S L P O R) (laws : AreLaws F) (declared : List L)
    (table : State (Slot P O R) (View P O R)) (r : Rule F declared table) (id : ℕ) (v : PassView P O R)
    (at : get_elem? table.views id ≡ some (Crew (v ∷ []))) where
  abbrev s : Phases
  s = r.state.phases

  abbrev c : ℕ
  c = v.number

  abbrev pub o : ℕ
  o = object_swapped v

  abbrev pub k : Object
  k = object_at s o

  knows : KnowsPass F.tag_of r.state r.beside id v
  knows = known F declared table r id v at

  pub gen_there : c < length s.turns.callers
  gen_there = turn_there s r.sound.phases c knows.there

  pub stage_is : (visitor_at s c).swap ≡ v.visitor.swap
  stage_is = ap (λ (z : Visitor). z.swap) knows.phases.visitor

  -- what any pass has found of an object that is over
  found_over : (j : ℕ) (y : PassView P O R) → KnowsPass F.tag_of r.state r.beside j y → (answer : Answer R) → y.found ≡ Some answer → tells_over answer ≡ true
      → is_over (object_at s (object_begun y.last)) ≡ true
  found_over j y was answer e tells = by_last y.last refl where
    by_last : (last : Option LastBegin) → y.last ≡ last → is_over (object_at s (object_begun last)) ≡ true
    by_last None is =
        absurd (let none : answer_begun (live_at y) None ≡ Some answer = ap (λ z. answer_begun (live_at y) z) (sym is) ∙ was.trace.found answer e in cc)
    by_last (Some begin) is =
        let kept = was.trace.kept in
        over_is (object_at s begin.object) (object_at s begin.object).incarnation answer tells
        ((r.sound.answers y.number was.there).found begin.object answer
        (ap (λ (z : Kept R). z.begun) kept ∙ ap begun_of is) (ap (λ (z : Kept R). z.found) kept ∙ e)).over

  module _ (named : named_by v.visitor.swap ≡ Some o) where
    pub there : o < length s.objects
    there =
        let lt = (visitor_known s r.sound.phases c knows.there).swap_alone.there o (ap named_by stage_is ∙ named) in
        let many = r.sound.phases.in_scene.many_objects in omega (arith, lt, many)

    pub few : o < 16
    few = let lt = there in let few' = r.shows.few_objects in omega (arith, lt, few')

    -- nobody else swaps the object
    pub alone : (j : ℕ) (y : PassView P O R) → y.number ≢ c → KnowsPass F.tag_of r.state r.beside j y → named_by y.visitor.swap ≡ Some o → ⊥
    alone j y not was names =
        not ((one_swap s r.sound.phases o there).one y.number c was.there knows.there
        (ap (λ (z : Visitor). named_by z.swap) was.phases.visitor ∙ names) (ap named_by stage_is ∙ named))

    -- its bits, its layout and its incarnation follow the stage
    pub bits : BitsFollow (bits_of k) k.shapes k.layout k.incarnation v.visitor.swap
    bits =
        let own = (visitor_known s r.sound.phases c knows.there).swap_alone.owned o (ap named_by stage_is ∙ named) in
        subst (BitsFollow (bits_of k) k.shapes k.layout k.incarnation) (own.1 ∙ stage_is) (object_known s r.sound.phases o there).bits_follow.bits

    pub swap_is_set : k.swap ≡ true
    swap_is_set = (one_swap s r.sound.phases o there).set c knows.there (ap named_by stage_is ∙ named)

    -- the state with it at another stage, and its object changed
    pub staged_effect : (stage : ℕ → SwapAt) (change : Object → Object) (kept : List (Kept R))
        → visited r.state (set s.objects o (change k)) (set s.callers c (at_stage v.visitor (stage o))) kept
        ≡ record r.state {
          phases =
              phase_events.staged s c (object_named (visitor_at s c).swap) (stage (object_named (visitor_at s c).swap))
              (change (object_at s (object_named (visitor_at s c).swap)));
          kept = kept;
        }
    staged_effect stage change kept =
        ap (λ (z : Visitor).
        visited r.state (set s.objects (object_named z.swap) (change (object_at s (object_named z.swap)))) (set s.callers c (at_stage z (stage (object_named z.swap)))) kept)
        (sym knows.phases.visitor)

    module _ (e : Event) (k' : Object) (kept : List (Kept R)) (swap' : SwapAt) where
      abbrev pub stage_after : Visitor
      stage_after = at_stage v.visitor swap'

      abbrev pub objects_after : List Object
      objects_after = set s.objects o k'

      abbrev callers_after : List Visitor
      callers_after = set s.callers c stage_after

      abbrev pub staged_state : Joined L O R
      staged_state = visited r.state objects_after callers_after kept

      pub object_is : object_at staged_state.phases o ≡ k'
      object_is = get_or-set_same s.objects o k' fresh_object there

      object_else : (q : ℕ) → q ≢ o → object_at staged_state.phases q ≡ object_at s q
      object_else q not = get_or-set_other s.objects o q k' fresh_object not

      module _ (staged : IsStaged r.state o k') where
        -- by whether it is the object
        by_object : (Q : ℕ → Object → Type 0) → Q o k' → ((q : ℕ) → q ≢ o → Q q (object_at s q)) → (q : ℕ) → Q q (object_at staged_state.phases q)
        by_object Q here else q = by_test (ℕ_discrete q o) where
          by_test : Dec (q ≡ o) → Q q (object_at staged_state.phases q)
          by_test (yes e) = subst (λ z. Q z (object_at staged_state.phases z)) (sym e) (subst (Q o) (sym object_is) here)
          by_test (no not) = subst (Q q) (sym (object_else q not)) (else q not)

        pub on : GoesOn r.state staged_state
        on = record {
          old = λ row.
              by_object (λ q l. (i : ℕ) → (i < (object_at s q).incarnation) × ((object_at s q).complete ≡ true → i + 1 < (object_at s q).incarnation)
              → (i < l.incarnation) × (l.complete ≡ true → i + 1 < l.incarnation))
              (λ i old. staged.old i old.0 old.1) (λ q not i old. old) row.object row.incarnation;
          shapes = by_object (λ q l. l.shapes ≡ (object_at s q).shapes) staged.shapes (λ q not. refl);
          freed =
              by_object (λ q l. (object_at s q).freed ≤ l.freed) (let same = staged.freed in omega (arith, same)) (λ q not. le_refl (object_at s q).freed);
        }

        spans_stay : (d : ℕ) (spans : List (ℕ × ℕ)) → d < many_callers r.state → (visitor_at s d).freeing ≡ spans → (q : ℕ)
            → (span_at spans q).0 < (span_at spans q).1 → (object_at staged_state.phases q).incarnation ≡ (object_at s q).incarnation
        spans_stay d spans lt is =
            by_object (λ q l. (span_at spans q).0 < (span_at spans q).1 → l.incarnation ≡ (object_at s q).incarnation)
            (λ some. staged.freeing d lt (subst (λ z. (span_at z o).0 < (span_at z o).1) (sym is) some)) (λ q not some. refl)

        over_stays : (j : ℕ) (y : PassView P O R) → KnowsPass F.tag_of r.state r.beside j y → (answer : Answer R) → y.found ≡ Some answer → tells_over answer ≡ true
            → (object_at staged_state.phases (object_begun y.last)).incarnation ≡ (object_at s (object_begun y.last)).incarnation
        over_stays j y was answer e tells =
            by_object (λ q l. is_over (object_at s q) ≡ true → l.incarnation ≡ (object_at s q).incarnation) staged.over (λ q not over. refl)
            (object_begun y.last) (found_over j y was answer e tells)

        pub inside_stays : (d : ℕ) → d < many_callers r.state → (q i : ℕ) → IsInside (visitor_at s d).place q i
            → (object_at staged_state.phases q).layout ≡ (object_at s q).layout
        inside_stays d lt =
            by_object (λ q l. (i : ℕ) → IsInside (visitor_at s d).place q i → l.layout ≡ (object_at s q).layout)
            (λ i inside. staged.inside d i lt inside) (λ q not i inside. refl)

        left : (j : ℕ) (y : PassView P O R) → y.number ≢ c → KnowsPass F.tag_of r.state r.beside j y → IsUndisturbed r.state staged_state y
        left j y not was = record {
          place = λ q i inside. inside_stays y.number was.there q i (subst (λ (z : Visitor). IsInside z.place q i) (sym was.phases.visitor) inside);
          swap =
              by_object (λ q l. named_by y.visitor.swap ≡ Some q → IsSameRow (object_at s q) l)
              (λ names. absurd (alone j y not was names)) (λ q other names. same_row (object_at s q));
          spans = spans_stay y.number y.visitor.freeing was.there (ap (λ (z : Visitor). z.freeing) was.phases.visitor);
          over = over_stays j y was;
        }

        pub staged_visit : IsPossible F declared r.state (AtPhases e) → staged_state ≡ effect r.state (AtPhases e)
            → ((d : ℕ) → d ≢ c → kept_of staged_state d ≡ kept_of r.state d) → IsVisit F laws declared table r id v at e objects_after kept stage_after
        staged_visit possible is kept_else = record { possible = possible; effect_is = is; on = on; left = left; kept_else = kept_else }

        -- what the pass knows then
        module _ (abandoned turned : Bool) (handed : Option ℕ) (rows : List Row) where
          abbrev pub staged_view : PassView P O R
          staged_view = told v stage_after v.last v.found abandoned turned v.layout handed rows

          -- of an object that it swaps on
          pub record KnowsStaged : Type 0 where
            pub names : named_by swap' ≡ Some o
            pub turned_is : turned ≡ is_turned swap' k'
            pub layout : turned ≡ false → layout_in (word_begun v.last) ≡ k'.layout
            pub begun : turned ≡ false → incarnation_in (word_begun v.last) ≡ k'.incarnation
            pub next : turned ≡ true → incarnation_in (word_begun v.last) + 1 ≡ k'.incarnation

          pub swap_staged : KnowsStaged → KnowsSwap staged_state.phases staged_view
          swap_staged is =
              let same : (q : ℕ) → named_by swap' ≡ Some q → o ≡ q = λ q e. same_Some o q (sym is.names ∙ e) in
              let here : object_named swap' ≡ o = ap (λ (z : Option ℕ). unwrap_or z 0) is.names in
              record {
                turned = is.turned_is ∙ ap (is_turned swap') (sym object_is) ∙ ap (λ z. is_turned swap' (object_at staged_state.phases z)) (sym here);
                layout_begun = λ q e not. is.layout not ∙ ap (λ (l : Object). l.layout) (sym object_is) ∙ ap (λ z. (object_at staged_state.phases z).layout) (same q e);
                begun = λ q e not. is.begun not ∙ ap (λ (l : Object). l.incarnation) (sym object_is) ∙ ap (λ z. (object_at staged_state.phases z).incarnation) (same q e);
                next = λ q e is'. is.next is' ∙ ap (λ (l : Object). l.incarnation) (sym object_is) ∙ ap (λ z. (object_at staged_state.phases z).incarnation) (same q e);
              }

          -- of rows
          pub rows_staged : take v.granted rows ≡ take v.granted v.rows → EachPlace (λ place row. IsOld staged_state.phases row) rows
              → KnowsRows staged_state.phases staged_view
          rows_staged granted old =
              rows_told F.tag_of r.state objects_after callers_after kept r.beside id v knows
              stage_after v.last v.found abandoned turned v.layout handed rows staged_state.phases refl refl granted old
              (rows_stay r.state staged_state v on
              (spans_stay c v.visitor.freeing knows.there (ap (λ (z : Visitor). z.freeing) knows.phases.visitor)) knows.phases.rows)

          pub rows_old : EachPlace (λ place row. IsOld staged_state.phases row) v.rows
          rows_old place row e = on.old row (knows.phases.rows.old place row e)

          pub own_staged : (naming : Row → ℕ) → NamesRows (record r.beside { row_seat = naming }) id rows
              → KnowsSwap staged_state.phases staged_view → KnowsRows staged_state.phases staged_view → kept_of staged_state c ≡ kept_in staged_view
              → ((tag : ℕ) → handed ≡ Some tag → ⊥) → (is_moved swap' ≡ true → is_handed staged_state (object_named swap') ≡ false)
              → KnowsPass F.tag_of staged_state (record r.beside { row_seat = naming }) id staged_view
          own_staged naming names swap known_rows kept_is none unhanded =
              own_after F.tag_of r.state objects_after callers_after kept r.beside id v knows
              stage_after v.last v.found abandoned turned v.layout handed rows naming (length-set s.callers c stage_after) names
              (record {
                visitor = get_or-set_same s.callers c stage_after fresh_visitor knows.there;
                shapes = λ q. knows.phases.shapes q ∙ sym (on.shapes q);
                layout = λ l q i e inside.
                    inside_stays c knows.there q i (subst (λ (z : Visitor). IsInside z.place q i) (sym knows.phases.visitor) inside) ∙ knows.phases.layout l q i e inside;
                learned = knows.phases.learned;
                swap = swap;
                rows = known_rows;
              })
              (record {
                kept = kept_is;
                found = knows.trace.found;
                over = λ answer e tells. knows.trace.over answer e tells ∙ sym (over_stays id v knows answer e tells);
                handed = λ tag e. absurd (none tag e);
                unhanded = λ e moved. unhanded moved;
                times = knows.trace.times;
              })
