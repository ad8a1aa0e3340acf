-- Turning over the object that is swapped.
use Rattle.std.proofs.Common.{◌≡◌, ℕ, ◌+◌, ◌-◌, ◌*◌, ◌%◌, ◌^◌, ◌<◌, ◌≤◌, Bool, true, false, ◌||◌, eqb, List, [], ◌∷◌, Some, None, length, get_or, set, sym, refl, ap, ◌∙◌, subst, arith, length-set}
use Rattle.std.proofs.lemmas.Bool.{eqb-true, le-leb}
use Rattle.std.proofs.lemmas.Option.{slice_get-get_or}
use mathlib.Core.Option.{some}
use lib.ListN.{get_elem?}
use Rattle.k42_shapes.specs.declared.shape.Shape.{Shape}
use Rattle.atomic_table.specs.Table.{State, Step, Allows}
use Rattle.k42_limits.specs.declared.TheConstants.{LAST_INCARNATION}
use Rattle.phase_core.specs.Effects.{at_stage, is_over, turned_over}
use Rattle.phase_core.specs.Event.{TurnOver}
use Rattle.phase_core.specs.Objects.{Bits, BitsFollow, IsLive, StageNoted}
use Rattle.phase_core.specs.Plain.{Object, Phases}
use Rattle.phase_core.specs.Stages.{IsInside, named_by, object_named, is_moved}
use Rattle.phase_core.specs.State.{object_at, visitor_at, span_at, fresh_object}
use Rattle.phase_core.specs.declared.caller.SwapAt.{SwapAt}
use Rattle.phase_core.specs.declared.caller.SwapAt.TheVariants.{Moved, Opening}
use Rattle.phase_core.proofs.InSound.{object_known, visitor_known}
use Rattle.phase_core.proofs.Reached.{turn_there, moving_alone}
use Rattle.turn_core.specs.Plain as turns
use Rattle.k42_stamp.specs.Laws.{AreLaws}
use Rattle.k42_stamp.specs.Layouts.{Layouts}
use Rattle.k42_joined.specs.Answers.{is_turned}
use Rattle.k42_joined.specs.Effects.{effect}
use Rattle.k42_joined.specs.Event.{AtPhases}
use Rattle.k42_joined.specs.Plain.{Joined}
use Rattle.k42_joined.specs.Possible.{IsPossible}
use Rattle.k42_joined.specs.State.{many_callers}
use Rattle.k42_joined.specs.Swapping.{holds_none, may_turn_over}
use Rattle.k42_board.specs.Cells.{Slot}
use Rattle.k42_board.specs.Rule.{KnowsPass, Rule, Ruled}
use Rattle.k42_board.specs.Seen.{IsSeatOf}
use Rattle.k42_board.specs.Steps.{Seated, Tells}
use Rattle.k42_board.specs.Swapping.{object_swapped, MayTurnOver, turn_amount, turned_view}
use Rattle.k42_board.specs.Values.{bit, object_value}
use Rattle.k42_board.specs.Log.{took}
use Rattle.k42_board.specs.Views.{pass_in}
use Rattle.k42_board.specs.Words.{object_word}
use Rattle.k42_board.specs.declared.view.PassView.{PassView}
use Rattle.k42_board.specs.declared.view.StepName.TheVariants as steps
use Rattle.k42_board.specs.declared.view.View.{View}
use Rattle.k42_board.specs.declared.view.View.TheVariants.{Crew}
use Rattle.k42_board.proofs.AtTables.{visited, Steps, visits, of_object, object_written, few_entries, written_shows}
use Rattle.k42_board.proofs.Fields.{bit_small, Fits, object_fits}
use Rattle.k42_board.proofs.Looking.{object_shown}
use Rattle.k42_board.proofs.Logged.{logged_moves}
use Rattle.k42_board.proofs.Moves.{Moves}
use Rattle.k42_board.proofs.OnePass.{with_pass, known}
use Rattle.k42_board.proofs.Retold.{retold, retold_allowed}
use Rattle.k42_board.proofs.Staging.{IsStaged, stage_is, there, few, bits, staged_effect, staged_visit, swap_staged, rows_staged, rows_old, own_staged}

-- what a stage tells at which the object is moved
pub record IsMoving (swap : SwapAt) : Type 0 where
  pub moved : swap ≡ Moved (object_named swap)
  pub named : named_by swap ≡ Some (object_named swap)
  pub unturned : (k : Object) → is_turned swap k ≡ false
  pub bits_are :
      (b : Bits) (shapes : List Shape) (layout incarnation : ℕ) → BitsFollow b shapes layout incarnation swap
      → ((b.block ≡ true) × (b.moving ≡ true) × (b.complete ≡ false)) × IsLive shapes layout incarnation

pub moving_is : (swap : SwapAt) → is_moved swap ≡ true → IsMoving swap
moving_is (Moved o) e = record { moved = refl; named = refl; unturned = λ k. refl; bits_are = λ b shapes layout incarnation is. is }
moving_is swap e = absurd (cc)

-- an object that is alive and has a next incarnation is not over
not_over : (k : Object) → IsLive k.shapes k.layout k.incarnation → is_over k ≡ true → ⊥
not_over k live e = by_test (eqb k.layout (length k.shapes)) refl e where
  by_test : (a : Bool) → eqb k.layout (length k.shapes) ≡ a → a || eqb k.incarnation LAST_INCARNATION ≡ true → ⊥
  by_test true is or = let same = eqb-true k.layout (length k.shapes) is in let lt = live.0 in absurd (omega (arith, same, lt))
  by_test false is or = let same = eqb-true k.incarnation LAST_INCARNATION or in let lt = live.1 in absurd (omega (arith, same, lt))

-- the word with the next incarnation and this layout
turned_value : (k : Object) (word tag : ℕ) → Fits k → (k.block ≡ true) × (k.moving ≡ true) × (k.complete ≡ false) → tag < 16 → word ≡ object_value k
    → (word + (2 ^ 32 + 2 ^ 28 * tag + 2 ^ 25 - 2 ^ 28 * k.layout)) % 2 ^ 64 ≡ object_value (turned_over k tag)
turned_value k word tag fits are most is =
    let a : bit k.swap ≤ 1 = bit_small k.swap in let b : bit k.block ≡ 1 = ap bit are.0 in
    let c : bit k.moving ≡ 1 = ap bit are.1 in let d : bit k.complete ≡ 0 = ap bit are.2 in
    let n = fits.count in let l = fits.layout in let i = fits.incarnation in omega (arith, is, a, b, c, d, n, l, i, most)

module _ {S L P O R : Type 0} (F : Layouts S L P O R) (laws : AreLaws F) (declared : List L)
    (table : State (Slot P O R) (View P O R)) (r : Rule F declared table) (id : ℕ) (v : PassView P O R)
    (at : get_elem? table.views id ≡ some (Crew (v ∷ []))) (moves : is_moved v.visitor.swap ≡ true) where
  abbrev s : Phases
  s = r.state.phases

  abbrev c : ℕ
  c = v.number

  abbrev o : ℕ
  o = object_swapped v

  abbrev k : Object
  k = object_at s o

  abbrev found : ℕ
  found = get_or table.words (object_word o) 0

  knows : KnowsPass F.tag_of r.state r.beside id v
  knows = known F declared table r id v at

  pub stage : IsMoving v.visitor.swap
  stage = moving_is v.visitor.swap moves

  pub o_there : o < length s.objects
  o_there = there F laws declared table r id v at stage.named

  pub small : o < 16
  small = few F laws declared table r id v at stage.named

  pub fits : Fits k
  fits = object_fits s r.sound.phases o o_there

  pub bits_are : ((k.block ≡ true) × (k.moving ≡ true) × (k.complete ≡ false)) × IsLive k.shapes k.layout k.incarnation
  bits_are = stage.bits_are _ _ _ _ (bits F laws declared table r id v at stage.named)

  pub unturned : v.turned ≡ false
  unturned = knows.phases.swap.turned ∙ stage.unturned k

  -- nobody frees a row of the object
  settled : (r.sound.phases.scene.looks o).settled ≡ true
  settled =
      let look = r.sound.phases.scene.looks o in
      let own = (visitor_known s r.sound.phases c knows.there).swap_alone.owned o (ap named_by (stage_is F laws declared table r id v at) ∙ stage.named) in
      subst (StageNoted look.noted look.incarnation look.settled) (own.1 ∙ stage_is F laws declared table r id v at ∙ stage.moved)
      (object_known s r.sound.phases o o_there).freed_rows.stage

  not_freed : (d : ℕ) → d < many_callers r.state → (span_at (visitor_at s d).freeing o).0 < (span_at (visitor_at s d).freeing o).1 → ⊥
  not_freed d lt spans =
      let not = ((visitor_known s r.sound.phases d lt).frees_alone.freeing o spans).3 in
      let is = settled in absurd (cc)

  not_inside : (d i : ℕ) → d < many_callers r.state → ¬ IsInside (visitor_at s d).place o i
  not_inside d i lt = moving_alone s d o r.sound.phases (turn_there s r.sound.phases d lt) o_there bits_are.0.1 i

  -- it is turned over, with the layout that it was handed on with
  module _ (tag : ℕ) (may : MayTurnOver tag v) where
    abbrev k' : Object
    k' = turned_over k tag

    staged : IsStaged r.state o k'
    staged = record {
      shapes = refl;
      freed = refl;
      old = λ i lt ended. (omega (arith, lt), λ done. omega (arith, lt));
      inside = λ d i lt inside. absurd (not_inside d i lt inside);
      freeing = λ d lt spans. absurd (not_freed d lt spans);
      over = λ e. absurd (not_over k bits_are.1 e);
    }

    -- the object has a layout with this tag, which fits into its word
    known_here : tag ≤ length k.shapes
    known_here = subst (λ (shapes : List Shape). tag ≤ length shapes) (knows.phases.shapes o) may.known

    tag_small : tag < 16
    tag_small =
        let few = (object_known s r.sound.phases o o_there).bits_follow.few in let most = known_here in omega (arith, few, most)

    known_there : tag ≤ length (object_at s (object_named (visitor_at s c).swap)).shapes
    known_there =
        subst (λ (swap : SwapAt). tag ≤ length (object_at s (object_named swap)).shapes) (sym (stage_is F laws declared table r id v at)) known_here

    possible : IsPossible F declared r.state (AtPhases (TurnOver c tag))
    possible = record {
      caller = knows.there;
      may = record {
        objects = tt;
        core =
            rw (
              ap is_moved (stage_is F laws declared table r id v at) ∙ moves,
              le-leb tag (length (object_at s (object_named (visitor_at s c).swap)).shapes) known_there,
            )
            refl;
        beside =
            rw (
              ap (λ (z : turns.Caller O R). holds_none z.held) knows.cells.taker ∙ may.free,
              ap (λ z. may_turn_over r.state F.tag_of (object_named z) tag) (stage_is F laws declared table r id v at) ∙ (knows.trace.handed tag may.handed).1,
            )
            refl;
      };
    }

    abbrev after : Joined L O R
    after = visited r.state (set s.objects o k') (set s.callers c (at_stage v.visitor (Opening o 0))) r.state.kept

    effect_is : after ≡ effect r.state (AtPhases (TurnOver c tag))
    effect_is = staged_effect F laws declared table r id v at stage.named (λ q. Opening q 0) (λ l. turned_over l tag) r.state.kept

    pass_after : KnowsPass F.tag_of after r.beside id (turned_view v)
    pass_after =
        own_staged F laws declared table r id v at stage.named (TurnOver c tag) k' r.state.kept (Opening o 0) staged v.abandoned true None v.rows
        r.beside.row_seat knows.names
        (swap_staged F laws declared table r id v at stage.named (TurnOver c tag) k' r.state.kept (Opening o 0) staged v.abandoned true None v.rows
        (record {
          names = refl;
          turned_is = refl;
          layout = λ not. absurd (cc);
          begun = λ not. absurd (cc);
          next = λ is. ap (λ n. n + 1) (knows.phases.swap.begun o stage.named unturned);
        }))
        (rows_staged F laws declared table r id v at stage.named (TurnOver c tag) k' r.state.kept (Opening o 0) staged v.abandoned true None v.rows refl
        (rows_old F laws declared table r id v at stage.named (TurnOver c tag) k' r.state.kept (Opening o 0) staged v.abandoned true None v.rows))
        knows.trace.kept
        (λ told e. absurd (cc))
        (λ moved. absurd (cc))

    value : (found + turn_amount tag v) % 2 ^ 64 ≡ object_value k'
    value =
        ap (λ z. (found + (2 ^ 32 + 2 ^ 28 * tag + 2 ^ 25 - 2 ^ 28 * z)) % 2 ^ 64) (knows.phases.swap.layout_begun o stage.named unturned)
        ∙ turned_value k found tag fits bits_are.0 tag_small (object_shown F laws declared table r id v at o o_there)

    pub turns_over : Steps F declared r.state (AtPhases (TurnOver c tag)) (with_pass table (set table.words (object_word o) ((found + turn_amount tag v) % 2 ^ 64)) table.homes id (turned_view v))
    turns_over =
        visits F laws declared table r id v at (TurnOver c tag) (set s.objects o k') r.state.kept (at_stage v.visitor (Opening o 0))
        (staged_visit F laws declared table r id v at stage.named (TurnOver c tag) k' r.state.kept (Opening o 0) staged possible effect_is (λ d not. refl))
        (set table.words (object_word o) ((found + turn_amount tag v) % 2 ^ 64)) (turned_view v)
        (written_shows F laws declared table r id v at (set s.objects o k') (at_stage v.visitor (Opening o 0)) r.state.kept (object_word o)
        ((found + turn_amount tag v) % 2 ^ 64) (turned_view v) (of_object o small) (length-set s.objects o k')
        (object_written table.words s.objects o k k' ((found + turn_amount tag v) % 2 ^ 64) r.shows.many_words r.shows.few_objects
        (few_entries F laws declared table r id v at) small (slice_get-get_or s.objects o fresh_object o_there) refl refl value r.shows.objects))
        pass_after

turn_goes : {S L P O R : Type 0} (F : Layouts S L P O R) → AreLaws F → (declared : List L) (id tag : ℕ) (v : PassView P O R) → MayTurnOver tag v
    → Moves F declared (AtPhases (TurnOver v.number tag)) (object_word (object_swapped v)) (λ word. (word + turn_amount tag v) % 2 ^ 64) (λ found. turned_view) id v
turn_goes F laws declared id tag v may = record { from = λ table r at. turns_over F laws declared table r id v at may.moved tag may }

pub turn_moves : {S L P O R : Type 0} (F : Layouts S L P O R) → AreLaws F → (declared : List L) (id tag : ℕ) (v : PassView P O R) → MayTurnOver tag v
    → Moves F declared (AtPhases (TurnOver v.number tag)) (object_word (object_swapped v)) (λ word. (word + turn_amount tag v) % 2 ^ 64) (λ found x. took steps.TurnOver (object_word (object_swapped x)) found (turned_view x))
    id v
turn_moves F laws declared id tag v may = record { from = (logged_moves steps.TurnOver (λ n. n) (λ found q before is. is) (turn_goes F laws declared id tag v may)).from }

-- as the play tells it, of an addition of this amount at the word that the step names
module _ {S L P O R : Type 0} (F : Layouts S L P O R) (laws : AreLaws F) (declared : List L) (id tag : ℕ)
    (me : Seated P O R) (is : IsSeatOf me (pass_in me.0)) (may : MayTurnOver tag (pass_in me.0))
    (word o : ℕ) (at : word ≡ object_word o) (same : object_swapped (pass_in me.0) ≡ o) (amount : ℕ) (adds : amount ≡ turn_amount tag (pass_in me.0)) where
  turn_word_there : word ≡ object_word (object_swapped (pass_in me.0))
  turn_word_there = at ∙ ap object_word (sym same)

  abbrev turn_row : ℕ → PassView P O R → PassView P O R
  turn_row found x = took steps.TurnOver (object_word (object_swapped x)) found (turned_view x)

  abbrev turn_play : ℕ → PassView P O R → PassView P O R
  turn_play found x = took steps.TurnOver word found (turned_view x)

  turn_same : (found : ℕ) → turn_row found (pass_in me.0) ≡ turn_play found (pass_in me.0)
  turn_same found = ap (λ i. took steps.TurnOver i found (turned_view (pass_in me.0))) (sym turn_word_there)

  pub turn_allowed : {callers : ℕ} (slots : ℕ) (step : Step (Slot P O R))
      → Allows (Ruled F declared callers) slots id me word (λ n. (n + amount) % 2 ^ 64) (Tells turn_play step me)
  turn_allowed {callers} slots step =
      subst (λ (z : ℕ). Allows (Ruled F declared callers) slots id me word (λ n. (n + z) % 2 ^ 64) (Tells turn_play step me)) (sym adds)
      (retold_allowed turn_row turn_play turn_same (turn_moves F laws declared id tag (pass_in me.0) may) me is word turn_word_there slots step)

  pub turn_told : (step : Step (Slot P O R)) (found : ℕ) (after : Seated P O R) → Tells turn_play step me found after → Tells turn_row step me found after
  turn_told step found after told = retold turn_row turn_play turn_same me after is step found told
