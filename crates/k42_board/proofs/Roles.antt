-- Taking the role is allowed to an idle pass, with what is due to be noted.
use Rattle.std.proofs.Common.{◌≡◌, ℕ, ◌+◌, ◌-◌, ◌*◌, ◌^◌, ◌<◌, ◌≤◌, Bool, true, false, cond, eqb, ltb, List, [], ◌∷◌, Option, Some, None, length, get_or, set, sym, refl, ap, ◌∙◌, subst, arith, le_refl, length-set, get_or-set_same, get_or-set_other}
use Rattle.std.specs.List.{slice_get}
use Rattle.std.specs.Prelude.{sum}
use Rattle.std.proofs.lemmas.Bool.{and_parts, lt-ltb, eq-eqb, eqb-true, ne_eqb, le-leb, ltb-true, ltb-false}
use Rattle.std.proofs.lemmas.Option.{slice_get_within, same_Some}
use mathlib.Core.Option.{some}
use lib.ListN.{get_elem?}
use prog.Atomic.{either}
use Rattle.atomic_table.specs.Table.{State, Step, Allows}
use Rattle.std.proofs.Math.Seq.{take-length}
use Rattle.std.proofs.lemmas.List.{get_or_past, length-map}
use Rattle.k42_limits.specs.declared.TheConstants.{LAST_INCARNATION, PASS_GRACES}
use Rattle.k42_places.proofs.EachPlaces.{EachPlace-set}
use Rattle.gen_core.specs.Events as gens
use Rattle.gen_core.specs.Events.{is_free, is_idle, role_taken}
use Rattle.gen_core.specs.Plain.{Generations, Caller}
use Rattle.gen_core.specs.Sound as gen
use Rattle.gen_core.specs.State.{caller_at, proc_at}
use Rattle.gen_core.specs.declared.event.GenEvent.TheVariants.{TakeRole}
use Rattle.gen_core.specs.declared.state.GenProc.{GenProc}
use Rattle.gen_core.proofs.Stages.{from_is_idle}
use Rattle.gen_core.proofs.Ranges.{few_procs, length-waits}
use Rattle.gen_core.proofs.Reached.{one_holder, role_there}
use Rattle.phase_core.specs.Effects.{role_taken_with}
use Rattle.phase_core.specs.Event.{TakeRoleWith}
use Rattle.phase_core.specs.Events.{taken_with}
use Rattle.phase_core.specs.Notes.{numbers_of, fits_note, notes_own}
use Rattle.phase_core.specs.Plain.{Object, Visitor, Phases}
use Rattle.phase_core.specs.Sound as phases
use Rattle.phase_core.specs.Stages.{may_take, named_by}
use Rattle.phase_core.specs.State.{object_at, visitor_at, note_at, fresh_object}
use Rattle.phase_core.specs.declared.caller.SwapAt.{SwapAt}
use Rattle.phase_core.specs.declared.caller.SwapAt.TheVariants.{Idle, Interposed}
use Rattle.phase_core.proofs.InSound.{object_known, visitor_known}
use Rattle.phase_core.proofs.Ranges.{turns_sound, many_noted, some_procs}
use Rattle.phase_core.proofs.Reached.{turn_there}
use Rattle.k42_stamp.specs.Laws.{AreLaws}
use Rattle.k42_stamp.specs.Layouts.{Layouts}
use Rattle.k42_joined.specs.Effects.{effect}
use Rattle.k42_joined.specs.Event.{AtPhases}
use Rattle.k42_joined.specs.Possible.{IsPossible}
use Rattle.k42_board.specs.Cells.{Slot}
use Rattle.k42_board.specs.Generations.{Counts, AreGenerations, grace_of, in_words}
use Rattle.k42_board.specs.Gracing.{MayTakeRole, role_view, RoleFound}
use Rattle.k42_board.specs.Log.{took, step_at}
use Rattle.k42_board.specs.Noting.{after_rows, is_of, due_note, notes_due, pairs_from}
use Rattle.k42_board.specs.Phases.{IsOld, IsGranted}
use Rattle.k42_board.specs.Rule.{KnowsPass, Rule, Ruled}
use Rattle.k42_board.specs.Seen.{IsSeatOf}
use Rattle.k42_board.specs.Steps.{Seated, TellsWith}
use Rattle.k42_board.specs.Values.{holder_value, incarnation_in}
use Rattle.k42_board.specs.Views.{word_begun}
use Rattle.k42_board.specs.Words.{role_word}
use Rattle.k42_board.specs.declared.view.PassView.{PassView}
use Rattle.k42_board.specs.declared.view.StepName.TheVariants as steps
use Rattle.k42_board.specs.declared.view.Row.{Row}
use Rattle.k42_board.specs.declared.view.Taken.{Taken}
use Rattle.k42_board.specs.declared.view.View.{View}
use Rattle.k42_board.specs.declared.view.View.TheVariants.{Crew}
use Rattle.k42_board.proofs.Apart.{of_role}
use Rattle.k42_board.proofs.Begun.{few_begun, one_more, processor_stays, begun_goes, will_flip_once}
use Rattle.k42_board.proofs.Logged.{relogged, AreSweptAs, known_relogged}
use Rattle.k42_board.proofs.Moves.{Moves, Finds, seat_allowed_with}
use Rattle.k42_board.proofs.Notings.{note_there, noted_of, numbers_noted, named_once, fitting, pairs_there, made_length, made_note, rows_fit, rows_below, all_from}
use Rattle.k42_board.proofs.OnePass.{with_pass, known}
use Rattle.k42_board.proofs.Turning.{IsTurn, turned, visitors_after, state_after, with_counts, own_goes, draining_swap, stayed}

is_of_named : (named : Option ℕ) (o : ℕ) → is_of named o ≡ true → named ≡ Some o
is_of_named None o e = absurd (cc)
is_of_named (Some q) o e = ap (λ n. Some n) (eqb-true q o e)

module _ (s : Phases) (sound : phases.IsSound s) where
  -- an object of which a row was handed on is there
  pub old_there : (row : Row) → IsOld s row → row.object < length s.objects
  old_there row old = by_test (ltb row.object (length s.objects)) refl where
    by_test : (b : Bool) → ltb row.object (length s.objects) ≡ b → row.object < length s.objects
    by_test true e = ltb-true row.object (length s.objects) e
    by_test false e =
        let none : object_at s row.object ≡ fresh_object = get_or_past s.objects row.object fresh_object (ltb-false row.object (length s.objects) e) in
        absurd (let below : row.incarnation < 0 = rw none at old.0 in omega (arith, below))

  pub old_small : (row : Row) → IsOld s row → row.incarnation < LAST_INCARNATION
  old_small row old =
      let last = (object_known s sound row.object (old_there row old)).bits_follow.last in let below = old.0 in omega (arith, last, below)

  -- a row that was handed on may be noted
  pub old_fits : (row : Row) → IsOld s row → fits_note (object_at s row.object) (row.incarnation + 1) ≡ true
  old_fits row old = by_complete (object_at s row.object).complete refl where
    k : Object
    k = object_at s row.object

    by_complete : (b : Bool) → k.complete ≡ b → fits_note k (row.incarnation + 1) ≡ true
    by_complete true e = rw e (lt-ltb (row.incarnation + 1) k.incarnation (old.1 e))
    by_complete false e = rw e (le-leb (row.incarnation + 1) k.incarnation (let below = old.0 in omega (arith, below)))

  -- and so may the incarnation of an object that is interposed
  pub own_fits : (c o : ℕ) (swap : SwapAt) → c < length s.callers → (visitor_at s c).swap ≡ swap → may_take swap ≡ true → named_by swap ≡ Some o
      → (o < length s.objects) × (fits_note (object_at s o) (object_at s o).incarnation ≡ true)
  own_fits c o Idle there is takes named = absurd (cc)
  own_fits c o (Interposed q) there is takes named =
      let own = (visitor_known s sound c there).swap_alone in
      let names : named_by (visitor_at s c).swap ≡ Some o = rw is named in
      let lt : o < length s.objects = rw sound.in_scene.many_objects (own.there o names) in
      let stage : (sound.scene.looks o).stage ≡ Interposed q = (own.owned o names).1 ∙ is in
      let clear : (object_at s o).complete ≡ false = (rw stage at (object_known s sound o lt).bits_follow.bits).0.2 in
      (lt, rw clear (le-leb (object_at s o).incarnation (object_at s o).incarnation (le_refl (object_at s o).incarnation)))
  own_fits c o swap there is takes named = absurd (cc)

module _ {S L P O R : Type 0} (F : Layouts S L P O R) (laws : AreLaws F) (declared : List L)
    (table : State (Slot P O R) (View P O R)) (r : Rule F declared table) (id : ℕ) (v : PassView P O R)
    (at : get_elem? table.views id ≡ some (Crew (v ∷ []))) (may : MayTakeRole v) where
  abbrev s : Generations
  s = r.state.phases.turns

  abbrev c : ℕ
  c = v.number

  abbrev knows : KnowsPass F.tag_of r.state r.beside id v
  knows = known F declared table r id v at

  abbrev x : Caller
  x = caller_at s c

  sound : gen.IsSound s
  sound = turns_sound r.state.phases r.sound.phases

  there : c < length s.callers
  there = turn_there r.state.phases r.sound.phases c knows.there

  turn : in_words x ≡ v.turn
  turn = knows.generations.turn

  free : is_free x ≡ true
  free = ap is_free turn ∙ may.free

  abbrev found : ℕ
  found = get_or table.words role_word 0

  found_is : found ≡ holder_value s.role
  found_is = r.shows.generations.role

  few_callers : length s.callers ≤ 16
  few_callers =
      let long = r.sound.phases.in_scene.in_course.many_callers in let few = r.sound.phases.in_scene.in_course.limits.few_callers in omega (arith, long, few)

  procs_few : length s.procs ≤ 8
  procs_few = few_procs s c sound there

  begun : sum r.beside.counts.graces ≤ 16 * 2 ^ 27
  begun = few_begun (length s.callers) r.beside.counts.graces few_callers r.shows.generations.graces

  can : gens.is_possible s (TakeRole c) ≡ true
  can =
      rw (free)
      (all_from (λ (k : GenProc). ltb k.generation (2 ^ 32 - 1)) s.procs
      (λ p k e.
      let is = (r.shows.generations.begun p k e).flipped in let most = begun in
      lt-ltb k.generation (2 ^ 32 - 1) (omega (arith, is, most))))

  -- what is noted

  abbrev notes : List (ℕ × ℕ)
  notes = pairs_from 0 (notes_due v)

  many : length (notes_due v) ≡ length r.state.phases.objects
  many =
      made_length (due_note v) 0 (length v.visitor.noted)
      ∙ ap (λ (z : Visitor). length z.noted) (sym knows.phases.visitor) ∙ many_noted r.state.phases r.sound.phases c there

  due_at : (o : ℕ) → o < length r.state.phases.objects → note_at (notes_due v) o ≡ due_note v o
  due_at o lt =
      let long = many in let made = made_length (due_note v) 0 (length v.visitor.noted) in
      made_note (due_note v) (length v.visitor.noted) o (omega (arith, lt, long, made))

  swap_is : (visitor_at r.state.phases c).swap ≡ v.visitor.swap
  swap_is = ap (λ (z : Visitor). z.swap) knows.phases.visitor

  not_turned : (swap : SwapAt) → v.visitor.swap ≡ swap → may_take swap ≡ true → v.turned ≡ false
  not_turned Idle is takes = let same = knows.phases.swap.turned in rw is at same
  not_turned (Interposed o) is takes = let same = knows.phases.swap.turned in rw is at same
  not_turned swap is takes = absurd (cc)

  -- the number of the object that it swaps is its incarnation
  own_is : (o : ℕ) → named_by v.visitor.swap ≡ Some o → incarnation_in (word_begun v.last) ≡ (object_at r.state.phases o).incarnation
  own_is o named = knows.phases.swap.begun o named (not_turned v.visitor.swap refl may.swap)

  due_fits : (o n : ℕ) → note_at (notes_due v) o ≡ Some n → fits_note (object_at r.state.phases o) n ≡ true
  due_fits o n noted =
      let lt : o < length r.state.phases.objects = let within = note_there (notes_due v) o n noted in let long = many in omega (arith, within, long) in
      by_test (is_of (named_by v.visitor.swap) o) refl (sym (due_at o lt) ∙ noted)
    where
      by_test : (b : Bool) → is_of (named_by v.visitor.swap) o ≡ b
          → cond b (Some (incarnation_in (word_begun v.last))) (after_rows v.rows o) ≡ Some n → fits_note (object_at r.state.phases o) n ≡ true
      by_test true e is =
          let named = is_of_named (named_by v.visitor.swap) o e in
          let number : (object_at r.state.phases o).incarnation ≡ n = sym (own_is o named) ∙ same_Some (incarnation_in (word_begun v.last)) n is in
          rw (← number) (own_fits r.state.phases r.sound.phases c o v.visitor.swap knows.there swap_is may.swap named).1
      by_test false e is =
          rows_fit (object_at r.state.phases o) o v.rows n
          (λ place row here same.
          subst (λ (q : ℕ). fits_note (object_at r.state.phases q) (row.incarnation + 1) ≡ true) same
          (old_fits r.state.phases r.sound.phases row (knows.phases.rows.old place row here)))
          is

  granted_row : (place : ℕ) (row : Row) → slice_get v.rows place ≡ Some row → IsGranted (notes_due v) row
  granted_row place row e = by_test (is_of (named_by v.visitor.swap) row.object) refl where
    old : IsOld r.state.phases row
    old = knows.phases.rows.old place row e

    at_o : note_at (notes_due v) row.object ≡ due_note v row.object
    at_o = due_at row.object (old_there r.state.phases r.sound.phases row old)

    by_test : (b : Bool) → is_of (named_by v.visitor.swap) row.object ≡ b → IsGranted (notes_due v) row
    by_test true test = record {
      number = incarnation_in (word_begun v.last);
      known = at_o ∙ rw test refl;
      above = let is = own_is row.object (is_of_named (named_by v.visitor.swap) row.object test) in let below = old.0 in omega (arith, is, below);
    }
    by_test false test =
        let after = rows_below v.rows row.object place row e refl in
        record { number = after.0; known = at_o ∙ rw test after.1; above = after.2 }

  own_noted : notes_own r.state.phases notes (visitor_at r.state.phases c).swap ≡ true
  own_noted = by_swap (visitor_at r.state.phases c).swap refl where
    by_swap : (swap : SwapAt) → (visitor_at r.state.phases c).swap ≡ swap → notes_own r.state.phases notes swap ≡ true
    by_swap (Interposed o) is =
        let mine : v.visitor.swap ≡ Interposed o = sym swap_is ∙ is in
        let named : named_by v.visitor.swap ≡ Some o = ap named_by mine in
        let lt = (own_fits r.state.phases r.sound.phases c o v.visitor.swap knows.there swap_is may.swap named).0 in
        let due : due_note v o ≡ Some (incarnation_in (word_begun v.last)) = rw (named, eq-eqb o o refl) refl in
        rw (noted_of (notes_due v) o ∙ due_at o lt ∙ due)
        (eq-eqb (incarnation_in (word_begun v.last)) (object_at r.state.phases o).incarnation (own_is o named))
    by_swap swap is = refl

  takes_role : IsPossible F declared r.state (AtPhases (TakeRoleWith c notes))
  takes_role = record {
    caller = knows.there;
    may = record {
      objects = pairs_there (length r.state.phases.objects) (notes_due v) (let long = many in omega (arith, long));
      core =
          let takes : may_take (visitor_at r.state.phases c).swap ≡ true = ap may_take swap_is ∙ may.swap in
          let fit = fitting r.state.phases.objects (notes_due v) due_fits in
          rw (can, takes, named_once (notes_due v), fit, own_noted) refl;
      beside = refl;
    };
  }

  -- the role is free

  abbrev g : Generations
  g = gens.taken s c None

  abbrev y : Visitor
  y = role_taken_with (visitor_at r.state.phases c) (numbers_of notes (length r.state.phases.objects))

  abbrev counts : Counts
  counts = record r.beside.counts { graces = set r.beside.counts.graces c (v.graces + 1) }

  c_begun : c < length r.beside.counts.graces
  c_begun = let many = r.shows.generations.graces.many in let lt = there in omega (arith, many, lt)

  more : sum counts.graces ≡ sum r.beside.counts.graces + 1
  more = one_more r.beside.counts.graces c v.graces c_begun knows.generations.graces

  abbrev taken : PassView P O R
  taken = record v {
    turn = role_taken v.turn;
    visitor = role_taken_with v.visitor (notes_due v);
    graces = v.graces + 1;
    base = None;
    granted = length v.rows;
  }

  abbrev w : PassView P O R
  w = took steps.TakeRole role_word found taken

  -- what the pass has taken then
  abbrev log : List Taken
  log = step_at steps.TakeRole role_word found ∷ v.log

  -- with the role it has swept nothing yet
  none_swept : eqb found 0 ≡ true → AreSweptAs r.state log v
  none_swept free o n swept = absurd (let nothing : false ≡ true = rw free at swept in cc)

  -- and without it what it had
  as_swept : eqb found 0 ≡ false → AreSweptAs r.state log v
  as_swept held o n swept = knows.phases.rows.swept o n (rw held at swept)

  module _ (nobody : s.role ≡ None) where
    is_free_role : eqb found 0 ≡ true
    is_free_role = eq-eqb found 0 (found_is ∙ ap holder_value nobody)

    turn_is : IsTurn F laws declared table r id v at (TakeRoleWith c notes) g y counts
    turn_is = record {
      possible = takes_role;
      effect_is = ap (λ (role : Option ℕ). record r.state { phases = taken_with r.state.phases c notes role }) (sym nobody);
      many_procs_same = refl;
      turns = λ d not. get_or-set_other s.callers c d (role_taken x) _ not;
      graces = λ d not. get_or-set_other r.beside.counts.graces c d (v.graces + 1) 0 not;
      base = λ d p k not busy here. (k, here, refl);
      rises = λ p. le_refl (proc_at s p).generation;
    }

    generations_after : AreGenerations (set table.words role_word (c + 1)) g counts
    generations_after = record {
      procs = λ p k e.
          let lt : p < 8 = let within = slice_get_within s.procs p k e in let few = procs_few in omega (arith, within, few) in
          processor_stays table.words role_word (c + 1) p k (λ h. omega (arith, h, lt)) (λ h. omega (arith, h, lt)) (λ h. omega (arith, h, lt))
          (r.shows.generations.procs p k e);
      role = get_or-set_same table.words role_word (c + 1) 0 (let wide = r.shows.many_words in omega (arith, wide));
      graces = record {
        many = length-set r.beside.counts.graces c (v.graces + 1) ∙ r.shows.generations.graces.many ∙ sym (length-set s.callers c (role_taken x));
        few = EachPlace-set (λ d n. n ≤ PASS_GRACES) r.beside.counts.graces c (v.graces + 1) r.shows.generations.graces.few (let less = may.few in omega (arith, less));
      };
      begun =
          begun_goes s g r.beside.counts counts 1 (let one = more in omega (arith, one))
          (λ p k e. (k, e, let most = will_flip_once g.role (grace_of g g.role) p in omega (arith, most)))
          r.shows.generations.begun;
    }

    pass_after : KnowsPass F.tag_of (state_after F laws declared table r id v at (TakeRoleWith c notes) g y counts) (with_counts r.beside counts) id w
    pass_after =
        own_goes r.state g (visitors_after F laws declared table r id v at (TakeRoleWith c notes) g y counts) (relogged v log)
        (role_taken v.turn) (role_taken_with v.visitor (notes_due v)) (v.graces + 1) None v.rows (length v.rows)
        F.tag_of r.beside counts id (known_relogged F.tag_of r.state r.beside id v log (none_swept is_free_role) knows)
        (record {
          many = length-set r.state.phases.callers c y;
          rises = turn_is.rises;
          generations = record {
            turn = ap in_words (get_or-set_same s.callers c (role_taken x) _ there) ∙ ap role_taken turn;
            graces = get_or-set_same r.beside.counts.graces c (v.graces + 1) 0 c_begun;
            base = λ b e. absurd (cc);
          };
          visitor_is =
              get_or-set_same r.state.phases.callers c y _ knows.there
              ∙ ap (λ (z : Visitor). role_taken_with z (numbers_of notes (length r.state.phases.objects))) knows.phases.visitor
              ∙ ap (λ (ns : List (Option ℕ)). role_taken_with v.visitor ns) (ap (numbers_of notes) (sym many) ∙ numbers_noted (notes_due v));
          place = refl;
          swap = draining_swap v.visitor.swap;
          proc = refl;
          names = knows.names;
          rows_known = record {
            old = knows.phases.rows.old;
            granted = λ place row e. granted_row place row (subst (λ (rows : List Row). slice_get rows place ≡ Some row) (take-length v.rows) e);
            swept = λ o n swept. absurd (let nothing : false ≡ true = rw is_free_role at swept in cc);
            spans = knows.phases.rows.spans;
          };
        })

    takes : (after : Rule F declared (with_pass table (set table.words role_word (c + 1)) table.homes id w))
        × (after.state ≡ effect r.state (AtPhases (TakeRoleWith c notes))) × IsPossible F declared r.state (AtPhases (TakeRoleWith c notes))
    takes =
        turned F laws declared table r id v at (TakeRoleWith c notes) g y counts turn_is role_word (c + 1) w of_role generations_after pass_after

  -- the rule after the step, and its state
  pub takes_or_not :
      (after : Rule F declared
      (with_pass table (set table.words role_word (cond (eqb found 0) (c + 1) found)) table.homes id (took steps.TakeRole role_word found (role_view found v))))
      × (after.state ≡ effect r.state (AtPhases (TakeRoleWith c notes))) × IsPossible F declared r.state (AtPhases (TakeRoleWith c notes))
  takes_or_not = by_role s.role refl where
    Goal : Bool → Type 0
    Goal b =
        (after : Rule F declared (with_pass table (set table.words role_word (cond b (c + 1) found)) table.homes id (took steps.TakeRole role_word found (cond b taken v))))
        × (after.state ≡ effect r.state (AtPhases (TakeRoleWith c notes))) × IsPossible F declared r.state (AtPhases (TakeRoleWith c notes))

    by_role : (role : Option ℕ) → s.role ≡ role → Goal (eqb found 0)
    by_role None e =
        subst Goal (sym (is_free_role e)) (takes e)
    by_role (Some holder) e =
        let held : found ≡ holder + 1 = found_is ∙ ap holder_value e in
        let another : eqb found 0 ≡ false = ne_eqb found 0 (λ none. omega (arith, held, none)) in
        subst Goal (sym another)
        (let after = stayed F declared table r id v at role_word (took steps.TakeRole role_word found v) (known_relogged F.tag_of r.state r.beside id v log (as_swept another) knows) in (
          after.0,
          after.1 ∙ ap (λ (role : Option ℕ). record r.state { phases = taken_with r.state.phases c notes role }) (sym e),
          takes_role,
        ))

  pub role_found : RoleFound v found
  role_found = record {
    another = λ same.
        let held : s.role ≡ Some c = by_role s.role refl same in
        (one_holder s sound).under_way c held (from_is_idle x.grace (and_parts (is_idle x.grace) _ free).0);
    small = small_value s.role refl;
    procs = let some_ = some_procs r.state.phases r.sound.phases in let long = waits_many in omega (arith, some_, long);
    notes =
        let long = many in let made = made_length (due_note v) 0 (length v.visitor.noted) in let few = r.shows.few_objects in
        omega (arith, long, made, few);
    rows = λ place row e. old_small r.state.phases r.sound.phases row (knows.phases.rows.old place row e);
    granted = granted_row;
  } where
    waits_many : length v.turn.waits ≡ length s.procs
    waits_many = ap (λ (z : Caller). length z.waits) (sym turn) ∙ length-map x.waits _ ∙ length-waits s c sound there

    by_role : (role : Option ℕ) → s.role ≡ role → found ≡ c + 1 → s.role ≡ Some c
    by_role None e is = absurd (let none : found ≡ 0 = found_is ∙ ap holder_value e in omega (arith, none, is))
    by_role (Some holder) e is =
        let held : found ≡ holder + 1 = found_is ∙ ap holder_value e in
        e ∙ ap (λ n. Some n) (let same : holder ≡ c = omega (arith, held, is) in same)

    small_value : (role : Option ℕ) → s.role ≡ role → found ≤ 16
    small_value None e = let none : found ≡ 0 = found_is ∙ ap holder_value e in omega (arith, none)
    small_value (Some holder) e =
        let held : found ≡ holder + 1 = found_is ∙ ap holder_value e in
        let lt = (role_there sound.course sound.course.stage holder sound.in_course.stage (sym sound.in_course.role ∙ e)).0 in
        let few = sound.in_course.limits.few_callers in
        omega (arith, held, lt, few)

pub role_moves : {S L P O R : Type 0} (F : Layouts S L P O R) → AreLaws F → (declared : List L) (id : ℕ) (v : PassView P O R) → MayTakeRole v
    → Moves F declared (AtPhases (TakeRoleWith v.number (pairs_from 0 (notes_due v)))) role_word (λ word. cond (eqb word 0) (v.number + 1) word)
    (λ found v. took steps.TakeRole role_word found (role_view found v)) id v
role_moves F laws declared id v may = record { from = λ table r at. takes_or_not F laws declared table r id v at may }

pub role_finds : {S L P O R : Type 0} (F : Layouts S L P O R) → AreLaws F → (declared : List L) (id : ℕ) (v : PassView P O R) → MayTakeRole v
    → Finds F declared role_word RoleFound id v
role_finds F laws declared id v may table r at = role_found F laws declared table r id v at may

either_is : (b : Bool) (new word : ℕ) → either b new word ≡ cond b new word
either_is true new word = refl
either_is false new word = refl

pub role_allowed : {S L P O R : Type 0} (F : Layouts S L P O R) → AreLaws F → (declared : List L) (id callers : ℕ) (v : PassView P O R) (me : Seated P O R) → IsSeatOf me v
    → MayTakeRole v → (number : ℕ) → v.number ≡ number → (slots : ℕ) (step : Step (Slot P O R))
    → Allows (Ruled F declared callers) slots id me role_word (λ n. either (eqb n 0) (number + 1) n) (TellsWith (λ found v. took steps.TakeRole role_word found (role_view found v)) RoleFound step me)
role_allowed F laws declared id callers v me is may number same slots step =
    subst (λ (f : ℕ → ℕ). Allows (Ruled F declared callers) slots id me role_word f (TellsWith (λ found v. took steps.TakeRole role_word found (role_view found v)) RoleFound step me))
    (λ k word. (ap (λ (c : ℕ). cond (eqb word 0) (c + 1) word) same ∙ sym (either_is (eqb word 0) (number + 1) word)) k)
    (seat_allowed_with (role_moves F laws declared id v may) RoleFound (role_finds F laws declared id v may) me is slots step)
