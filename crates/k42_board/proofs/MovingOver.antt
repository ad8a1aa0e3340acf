-- Beginning to move the object that is swapped, where nobody is counted.
use Rattle.std.proofs.Common.{◌≡◌, ℕ, ◌+◌, ◌*◌, ◌^◌, ◌<◌, Bool, true, false, cond, eqb, List, [], ◌∷◌, Some, length, get_or, set, sym, refl, ap, ◌∙◌, subst, arith, length-set}
use Rattle.std.specs.Prelude.{nat_lt}
use Rattle.std.proofs.lemmas.Bool.{eqb-true, eq-eqb}
use Rattle.std.proofs.lemmas.List.{set-get_or}
use Rattle.std.proofs.lemmas.Option.{slice_get-get_or}
use mathlib.Core.Option.{some}
use lib.ListN.{get_elem?}
use prog.Atomic.{either}
use Rattle.k42_shapes.specs.declared.shape.Shape.{Shape}
use Rattle.atomic_table.specs.Table.{State, Step, Allows}
use Rattle.phase_core.specs.Effects.{at_stage}
use Rattle.phase_core.specs.Event.{Move}
use Rattle.phase_core.specs.Events as phase_events
use Rattle.phase_core.specs.Objects.{Bits, BitsFollow}
use Rattle.phase_core.specs.Plain.{Object, Visitor, Phases}
use Rattle.phase_core.specs.Stages.{named_by, object_named, is_blocking, is_moved}
use Rattle.phase_core.specs.State.{object_at, visitor_at, fresh_object, fresh_visitor}
use Rattle.phase_core.specs.declared.caller.SwapAt.{SwapAt}
use Rattle.phase_core.specs.declared.caller.SwapAt.TheVariants.{Blocking, Moved}
use Rattle.k42_stamp.specs.Laws.{AreLaws}
use Rattle.k42_stamp.specs.Layouts.{Layouts}
use Rattle.k42_joined.specs.Answers.{is_turned}
use Rattle.k42_joined.specs.Effects.{effect}
use Rattle.k42_joined.specs.Event.{AtPhases}
use Rattle.k42_joined.specs.Plain.{Joined}
use Rattle.k42_joined.specs.Possible.{IsPossible}
use Rattle.k42_joined.specs.State.{is_handed, many_hands}
use Rattle.k42_joined.proofs.AnswersMoves.{not_handed_yet}
use Rattle.k42_board.specs.Cells.{Slot}
use Rattle.k42_board.specs.Rule.{KnowsPass, Rule, Ruled}
use Rattle.k42_board.specs.Seen.{IsSeatOf}
use Rattle.k42_board.specs.Steps.{Seated, Tells, TellsWith}
use Rattle.k42_board.specs.Swapping.{object_swapped, at_swap, MayMove, blocked_word, moves, moved_view, CountFound}
use Rattle.k42_board.specs.Values.{bit, object_value, layout_in, incarnation_in}
use Rattle.k42_board.specs.Log.{took}
use Rattle.k42_board.specs.Views.{pass_in, word_begun}
use Rattle.k42_board.specs.Words.{object_word}
use Rattle.k42_board.specs.declared.view.PassView.{PassView}
use Rattle.k42_board.specs.declared.view.StepName.TheVariants as steps
use Rattle.k42_board.specs.declared.view.View.{View}
use Rattle.k42_board.specs.declared.view.View.TheVariants.{Crew}
use Rattle.k42_board.proofs.AtTables.{visited, Steps, visits, of_object, object_written, few_entries, written_shows}
use Rattle.k42_board.proofs.Fields.{Fits, object_fits}
use Rattle.k42_board.proofs.Installing.{both_or_none}
use Rattle.k42_board.proofs.Looking.{reads, object_shown}
use Rattle.k42_board.proofs.Logged.{logged_moves}
use Rattle.k42_board.proofs.Moves.{Moves, Finds}
use Rattle.k42_board.proofs.OnePass.{with_pass, known}
use Rattle.k42_board.proofs.Retold.{retold, retold_allowed_with}
use Rattle.k42_board.proofs.Staging.{IsStaged, stays_staged, stage_is, there, few, bits, swap_is_set, object_is, staged_effect, staged_visit, swap_staged, rows_staged, rows_old, own_staged}

-- what a blocking stage tells
record IsBlocking (swap : SwapAt) : Type 0 where
  pub named : named_by swap ≡ Some (object_named swap)
  pub unmoved : is_moved swap ≡ false
  pub not_moved : (o : ℕ) → swap ≡ Moved o → ⊥
  pub unturned : (k : Object) → is_turned swap k ≡ false
  pub bits_are :
      (b : Bits) (shapes : List Shape) (layout incarnation : ℕ) → BitsFollow b shapes layout incarnation swap
      → (b.block ≡ true) × (b.moving ≡ false) × (b.complete ≡ false)

blocking_is : (swap : SwapAt) → is_blocking swap ≡ true → IsBlocking swap
blocking_is (Blocking o) e = record {
  named = refl;
  unmoved = refl;
  not_moved = λ q same. absurd (let not : is_moved (Blocking o) ≡ true = ap is_moved same in cc);
  unturned = λ k. refl;
  bits_are = λ b shapes layout incarnation is. is.0;
}
blocking_is swap e = absurd (cc)

from_false : (b : Bool) → (b ≡ true → ⊥) → b ≡ false
from_false true not = absurd (not refl)
from_false false not = refl

-- the word of an object that blocks
blocked_value : (k : Object) (word : ℕ) → k.swap ≡ true → (k.block ≡ true) × (k.moving ≡ false) × (k.complete ≡ false) → word ≡ object_value k
    → word ≡ k.count + 2 ^ 24 * 3 + 2 ^ 28 * k.layout + 2 ^ 32 * k.incarnation
blocked_value k word swap are is =
    let a : bit k.swap ≡ 1 = ap bit swap in let b : bit k.block ≡ 1 = ap bit are.0 in
    let c : bit k.moving ≡ 0 = ap bit are.1 in let d : bit k.complete ≡ 0 = ap bit are.2 in omega (arith, is, a, b, c, d)

moving_value : (k : Object) → k.swap ≡ true → (k.block ≡ true) × (k.moving ≡ false) × (k.complete ≡ false) → k.count ≡ 0
    → object_value (record k { moving = true }) ≡ 2 ^ 24 * 3 + 2 ^ 28 * k.layout + 2 ^ 32 * k.incarnation + 2 ^ 26
moving_value k swap are none =
    let a : bit k.swap ≡ 1 = ap bit swap in let b : bit k.block ≡ 1 = ap bit are.0 in
    let d : bit k.complete ≡ 0 = ap bit are.2 in omega (arith, a, b, d, none)

module _ {S L P O R : Type 0} (F : Layouts S L P O R) (laws : AreLaws F) (declared : List L)
    (table : State (Slot P O R) (View P O R)) (r : Rule F declared table) (id : ℕ) (v : PassView P O R)
    (at : get_elem? table.views id ≡ some (Crew (v ∷ []))) (may : MayMove v) where
  abbrev s : Phases
  s = r.state.phases

  abbrev c : ℕ
  c = v.number

  abbrev o : ℕ
  o = object_swapped v

  abbrev k : Object
  k = object_at s o

  abbrev found : ℕ
  found = get_or table.words (object_word o) 0

  abbrev k' : Object
  k' = record k { moving = true }

  knows : KnowsPass F.tag_of r.state r.beside id v
  knows = known F declared table r id v at

  stage : IsBlocking v.visitor.swap
  stage = blocking_is v.visitor.swap may

  o_there : o < length s.objects
  o_there = there F laws declared table r id v at stage.named

  small : o < 16
  small = few F laws declared table r id v at stage.named

  fits : Fits k
  fits = object_fits s r.sound.phases o o_there

  bits_are : (k.block ≡ true) × (k.moving ≡ false) × (k.complete ≡ false)
  bits_are = stage.bits_are _ _ _ _ (bits F laws declared table r id v at stage.named)

  swap_set : k.swap ≡ true
  swap_set = swap_is_set F laws declared table r id v at stage.named

  unturned : v.turned ≡ false
  unturned = knows.phases.swap.turned ∙ stage.unturned k

  layout_is : layout_in (word_begun v.last) ≡ k.layout
  layout_is = knows.phases.swap.layout_begun o stage.named unturned

  incarnation_is : incarnation_in (word_begun v.last) ≡ k.incarnation
  incarnation_is = knows.phases.swap.begun o stage.named unturned

  shown : found ≡ k.count + 2 ^ 24 * 3 + 2 ^ 28 * k.layout + 2 ^ 32 * k.incarnation
  shown = blocked_value k found swap_set bits_are (object_shown F laws declared table r id v at o o_there)

  blocked_is : blocked_word v ≡ 2 ^ 24 * 3 + 2 ^ 28 * k.layout + 2 ^ 32 * k.incarnation
  blocked_is = ap (λ (z : ℕ × ℕ). 2 ^ 24 * 3 + 2 ^ 28 * z.0 + 2 ^ 32 * z.1) (λ j. (layout_is j, incarnation_is j))

  test_is : eqb found (blocked_word v) ≡ eqb k.count 0
  test_is =
      both_or_none (eqb found (blocked_word v)) (eqb k.count 0)
      (λ same. let here = eqb-true found (blocked_word v) same in let a = shown in let b = blocked_is in eq-eqb k.count 0 (omega (arith, here, a, b)))
      (λ none. let here = eqb-true k.count 0 none in let a = shown in let b = blocked_is in eq-eqb found (blocked_word v) (omega (arith, here, a, b)))

  -- the event, where nobody is counted and where some are
  abbrev tries : Bool → Visitor → Joined L O R
  tries b z =
      let q = object_named z.swap in
      record r.state { phases = cond b (phase_events.staged s c q (Moved q) (record (object_at s q) { moving = true })) s; kept = r.state.kept }

  effect_is : effect r.state (AtPhases (Move c)) ≡ tries (eqb found (blocked_word v)) (visitor_at s c)
  effect_is =
      ap (λ (z : Visitor). tries (eqb (object_at s (object_named z.swap)).count 0) (visitor_at s c)) knows.phases.visitor
      ∙ ap (λ b. tries b (visitor_at s c)) (sym test_is)

  possible : IsPossible F declared r.state (AtPhases (Move c))
  possible = record {
    caller = knows.there;
    may = record { objects = tt; core = ap is_blocking (stage_is F laws declared table r id v at) ∙ may; beside = refl };
  }

  staged : IsStaged r.state o k'
  staged = stays_staged r.state o k' (record { shapes = refl; layout = refl; incarnation = refl; freed = refl; complete = λ done. done })

  abbrev after : Joined L O R
  after = visited r.state (set s.objects o k') (set s.callers c (at_stage v.visitor (Moved o))) r.state.kept

  -- the row was not handed on yet
  not_handed : is_handed r.state o ≡ false
  not_handed =
      from_false (is_handed r.state o)
      (not_handed_yet F laws declared r.state r.sound.phases r.sound.cells.turns r.sound.cells.locks r.sound.cells.rows r.sound.answers c knows.there o
      (ap named_by (stage_is F laws declared table r id v at) ∙ stage.named)
      (λ moved. stage.not_moved o (sym (stage_is F laws declared table r id v at) ∙ moved)))

  pass_after : KnowsPass F.tag_of after r.beside id (at_swap v (Moved o))
  pass_after =
      own_staged F laws declared table r id v at stage.named (Move c) k' r.state.kept (Moved o) staged v.abandoned v.turned v.handed v.rows
      r.beside.row_seat knows.names
      (swap_staged F laws declared table r id v at stage.named (Move c) k' r.state.kept (Moved o) staged v.abandoned v.turned v.handed v.rows
      (record {
        names = refl;
        turned_is = unturned;
        layout = knows.phases.swap.layout_begun o stage.named;
        begun = knows.phases.swap.begun o stage.named;
        next = knows.phases.swap.next o stage.named;
      }))
      (rows_staged F laws declared table r id v at stage.named (Move c) k' r.state.kept (Moved o) staged v.abandoned v.turned v.handed v.rows refl
      (rows_old F laws declared table r id v at stage.named (Move c) k' r.state.kept (Moved o) staged v.abandoned v.turned v.handed v.rows))
      knows.trace.kept
      (λ tag e. absurd (let old = (knows.trace.handed tag e).0 in let not = stage.unmoved in cc))
      (λ moved.
      ap (λ (l : Object). nat_lt l.incarnation (many_hands r.state o)) (object_is F laws declared table r id v at stage.named (Move c) k' r.state.kept (Moved o))
      ∙ not_handed)

  abbrev Goal : Bool → Type 0
  Goal b =
      Steps F declared r.state (AtPhases (Move c)) (with_pass table (set table.words (object_word o) (cond b (blocked_word v + 2 ^ 26) found)) table.homes id
      (cond b (at_swap v (Moved o)) (v)))

  by_test : (b : Bool) → eqb found (blocked_word v) ≡ b → effect r.state (AtPhases (Move c)) ≡ tries b (visitor_at s c) → Goal b
  by_test true e is =
      let none : k.count ≡ 0 = eqb-true k.count 0 (sym test_is ∙ e) in
      let value : blocked_word v + 2 ^ 26 ≡ object_value k' = ap (λ n. n + 2 ^ 26) blocked_is ∙ sym (moving_value k swap_set bits_are none) in
      visits F laws declared table r id v at (Move c) (set s.objects o k') r.state.kept (at_stage v.visitor (Moved o))
      (staged_visit F laws declared table r id v at stage.named (Move c) k' r.state.kept (Moved o) staged possible
      (staged_effect F laws declared table r id v at stage.named (λ q. Moved q) (λ (l : Object). record l { moving = true }) r.state.kept ∙ sym is) (λ d not. refl))
      (set table.words (object_word o) (blocked_word v + 2 ^ 26)) (at_swap v (Moved o))
      (written_shows F laws declared table r id v at (set s.objects o k') (at_stage v.visitor (Moved o)) r.state.kept (object_word o) (blocked_word v + 2 ^ 26)
      (at_swap v (Moved o)) (of_object o small) (length-set s.objects o k')
      (object_written table.words s.objects o k k' (blocked_word v + 2 ^ 26) r.shows.many_words r.shows.few_objects
      (few_entries F laws declared table r id v at) small (slice_get-get_or s.objects o fresh_object o_there) refl refl value r.shows.objects))
      pass_after
  by_test false e is =
      reads F laws declared table r id v at (Move c) v.visitor.place v.visitor.read v.layout possible
      (ap (λ z. visited r.state s.objects (set s.callers c z) r.state.kept) (sym knows.phases.visitor)
      ∙ ap (λ z. visited r.state s.objects z r.state.kept) (set-get_or s.callers c fresh_visitor) ∙ sym is)
      knows.phases.layout knows.phases.learned (object_word o)

  pub tries_to_move : Goal (eqb found (blocked_word v))
  tries_to_move = by_test (eqb found (blocked_word v)) refl effect_is

  pub count_seen : CountFound v found
  count_seen =
      let a = shown in let b = blocked_is in let n = fits.count in let l = fits.layout in
      record {
        counted = omega (arith, a, b, n, l);
        few = omega (arith, a, n, l);
      }

move_goes : {S L P O R : Type 0} (F : Layouts S L P O R) → AreLaws F → (declared : List L) (id : ℕ) (v : PassView P O R) → MayMove v
    → Moves F declared (AtPhases (Move v.number)) (object_word (object_swapped v)) (moves v) moved_view id v
move_goes F laws declared id v may = record { from = λ table r at. tries_to_move F laws declared table r id v at may }

pub move_moves : {S L P O R : Type 0} (F : Layouts S L P O R) → AreLaws F → (declared : List L) (id : ℕ) (v : PassView P O R) → MayMove v
    → Moves F declared (AtPhases (Move v.number)) (object_word (object_swapped v)) (moves v) (λ found x. took steps.Move (object_word (object_swapped x)) found (moved_view found x))
    id v
move_moves F laws declared id v may = record { from = (logged_moves steps.Move (λ n. n) (λ found q before is. is) (move_goes F laws declared id v may)).from }

pub move_finds : {S L P O R : Type 0} (F : Layouts S L P O R) → AreLaws F → (declared : List L) (id : ℕ) (v : PassView P O R) → MayMove v
    → Finds F declared (object_word (object_swapped v)) CountFound id v
move_finds F laws declared id v may table r at = count_seen F laws declared table r id v at may

-- as the play tells it, of an exchange of these words at the word that the step names
module _ {S L P O R : Type 0} (F : Layouts S L P O R) (laws : AreLaws F) (declared : List L) (id : ℕ)
    (me : Seated P O R) (is : IsSeatOf me (pass_in me.0)) (may : MayMove (pass_in me.0))
    (word o : ℕ) (at : word ≡ object_word o) (same : object_swapped (pass_in me.0) ≡ o) (old new : ℕ)
    (words : (old ≡ blocked_word (pass_in me.0)) × (new ≡ blocked_word (pass_in me.0) + 2 ^ 26)) where
  move_there : word ≡ object_word (object_swapped (pass_in me.0))
  move_there = at ∙ ap object_word (sym same)

  abbrev move_row : ℕ → PassView P O R → PassView P O R
  move_row found x = took steps.Move (object_word (object_swapped x)) found (moved_view found x)

  abbrev move_play : ℕ → PassView P O R → PassView P O R
  move_play found x = took steps.Move word found (moved_view found x)

  move_same : (found : ℕ) → move_row found (pass_in me.0) ≡ move_play found (pass_in me.0)
  move_same found = ap (λ i. took steps.Move i found (moved_view found (pass_in me.0))) (sym move_there)

  pub move_allowed : {callers : ℕ} (slots : ℕ) (step : Step (Slot P O R))
      → Allows (Ruled F declared callers) slots id me word (λ n. either (eqb n old) new n) (TellsWith move_play CountFound step me)
  move_allowed {callers} slots step =
      subst (λ (z : ℕ × ℕ). Allows (Ruled F declared callers) slots id me word (λ n. either (eqb n z.0) z.1 n) (TellsWith move_play CountFound step me))
      (λ j. (sym words.0 j, sym words.1 j))
      (retold_allowed_with move_row move_play move_same (move_moves F laws declared id (pass_in me.0) may) CountFound
      (move_finds F laws declared id (pass_in me.0) may) me is word move_there slots step)

  pub move_told : (step : Step (Slot P O R)) (found : ℕ) (after : Seated P O R) → TellsWith move_play CountFound step me found after → Tells move_row step me found after
  move_told step found after told = retold move_row move_play move_same me after is step found told.0
