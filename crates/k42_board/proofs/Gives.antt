-- Giving the role back is allowed to a quiet pass that has freed the rows of the object that it swaps.
use Rattle.std.proofs.Common.{◌≡◌, ◌≢◌, ℕ, zero, suc, ◌+◌, ◌<◌, Bool, true, false, List, [], ◌∷◌, Some, length, get_or, set, drop, replicate, sym, refl, ap, ◌∙◌, subst, arith, le_refl, length-set, get_or-set_same, get_or-set_other}
use Rattle.std.specs.List.{slice_get}
use Rattle.std.proofs.lemmas.Bool.{le-leb, MatchBool-at_false, ltb-true, ltb-false}
use Rattle.std.proofs.lemmas.List.{get_or-replicate, get_or_past, length-replicate}
use Rattle.std.proofs.lemmas.Option.{slice_get_within}
use mathlib.Core.Option.{some}
use lib.ListN.{get_elem?}
use Rattle.std.proofs.Common.{ltb}
use Rattle.atomic_table.specs.Table.{State, Step, Allows}
use Rattle.k42_places.specs.Places.{EachPlace}
use Rattle.gen_core.specs.Events as gens
use Rattle.gen_core.specs.Events.{is_idle, role_given}
use Rattle.gen_core.specs.Plain.{Generations, Caller}
use Rattle.gen_core.specs.State.{caller_at, proc_at}
use Rattle.gen_core.specs.declared.event.GenEvent.TheVariants.{GiveRole}
use Rattle.gen_core.specs.declared.state.GraceAt.TheVariants.{Quiet}
use Rattle.gen_core.specs.declared.state.GraceAt.TheVariants as graces
use Rattle.phase_core.specs.Event.{Turn}
use Rattle.phase_core.specs.Events.{may_give}
use Rattle.phase_core.specs.Plain.{Visitor}
use Rattle.phase_core.specs.Stages.{named_by}
use Rattle.phase_core.specs.State.{object_at, visitor_at, note_at, span_at}
use Rattle.phase_core.specs.declared.caller.SwapAt.{SwapAt}
use Rattle.phase_core.specs.declared.caller.SwapAt.TheVariants.{Drained}
use Rattle.phase_core.proofs.InSound.{object_known, visitor_known}
use Rattle.turn_core.specs.Plain as turns
use Rattle.k42_stamp.specs.Laws.{AreLaws}
use Rattle.k42_stamp.specs.Layouts.{Layouts}
use Rattle.k42_joined.specs.Effects.{effect}
use Rattle.k42_joined.specs.Event.{AtPhases}
use Rattle.k42_joined.specs.Possible.{IsPossible}
use Rattle.k42_joined.specs.Swapping.{holds_none}
use Rattle.k42_board.specs.Cells.{Slot}
use Rattle.k42_board.specs.Generations.{AreGenerations, in_words}
use Rattle.k42_board.specs.Gracing.{MayGiveRole, given_view, RowsGiven}
use Rattle.k42_board.specs.Log.{took}
use Rattle.k42_board.specs.Phases.{IsOld}
use Rattle.k42_board.specs.Rule.{AreOnce, KnowsPass, Rule, Ruled}
use Rattle.k42_board.specs.Seen.{IsSeatOf}
use Rattle.k42_board.specs.Steps.{Seated, TellsWith}
use Rattle.k42_board.specs.Words.{role_word}
use Rattle.k42_board.specs.declared.view.PassView.{PassView}
use Rattle.k42_board.specs.declared.view.StepName.TheVariants as steps
use Rattle.k42_board.specs.declared.view.Row.{Row}
use Rattle.k42_board.specs.declared.view.View.{View}
use Rattle.k42_board.specs.declared.view.View.TheVariants.{Crew}
use Rattle.k42_board.proofs.Apart.{of_role}
use Rattle.k42_board.proofs.Begun.{processor_stays, begun_goes}
use Rattle.k42_board.proofs.Holding.{knows, there, turn, procs_few, role}
use Rattle.k42_board.proofs.Logged.{logged_moves}
use Rattle.k42_board.proofs.Moves.{Moves, Finds, seat_allowed_with}
use Rattle.k42_board.proofs.OnePass.{with_pass}
use Rattle.k42_board.proofs.Turning.{IsTurn, turned, visitors_after, state_after, with_counts, own_goes, same_swap}

-- what stands in the rest of a list stands further on in the list
in_rest : {A : Type 0} (xs : List A) (n i : ℕ) → slice_get (drop n xs) i ≡ slice_get xs (n + i)
in_rest xs zero i = let same : i ≡ zero + i = omega arith in ap (slice_get xs) same
in_rest [] (suc n) i = refl
in_rest (x ∷ xs) (suc n) i = let same : suc (n + i) ≡ suc n + i = omega arith in in_rest xs n i ∙ ap (slice_get (x ∷ xs)) same

pub each_rest : {A : Type 0} (Q : A → Type 0) (xs : List A) (n : ℕ) → EachPlace (λ place x. Q x) xs → EachPlace (λ place x. Q x) (drop n xs)
each_rest Q xs n each i x e = each (n + i) x (sym (in_rest xs n i) ∙ e)

once_rest : (rows : List Row) (n : ℕ) → AreOnce rows → AreOnce (drop n rows)
once_rest rows n once i j row e f =
    let same = once (n + i) (n + j) row (sym (in_rest rows n i) ∙ e) (sym (in_rest rows n j) ∙ f) in omega (arith, same)

no_span : (n o : ℕ) → span_at (replicate n (0, 0)) o ≡ (0, 0)
no_span n o = by_test (ltb o n) refl where
  by_test : (b : Bool) → ltb o n ≡ b → span_at (replicate n (0, 0)) o ≡ (0, 0)
  by_test true e = get_or-replicate n o (0, 0) (0, 0) (ltb-true o n e)
  by_test false e =
      get_or_past (replicate n (0, 0)) o (0, 0) (let past = ltb-false o n e in let long = length-replicate {A = ℕ × ℕ} n (0, 0) in omega (arith, past, long))

module _ {S L P O R : Type 0} (F : Layouts S L P O R) (laws : AreLaws F) (declared : List L)
    (table : State (Slot P O R) (View P O R)) (r : Rule F declared table) (id : ℕ) (v : PassView P O R)
    (at : get_elem? table.views id ≡ some (Crew (v ∷ []))) (may : MayGiveRole v) where
  abbrev c : ℕ
  c = v.number

  abbrev s : Generations
  s = r.state.phases.turns

  abbrev x : Caller
  x = caller_at s c

  abbrev w : PassView P O R
  w = given_view v

  mine : KnowsPass F.tag_of r.state r.beside id v
  mine = knows F declared table r id v at

  turn_x : in_words x ≡ v.turn
  turn_x = turn F declared table r id v at

  grace : x.grace ≡ Quiet
  grace = ap (λ (z : Caller). z.grace) turn_x ∙ may.quiet

  busy : v.turn.grace ≢ graces.Idle
  busy idle = absurd (let quiet = may.quiet in cc)

  held_role : s.role ≡ Some c
  held_role = role F declared table r id v at busy

  -- the rows of the object that it swaps are freed
  may_give_it : may_give r.state.phases (visitor_at r.state.phases c).swap ≡ true
  may_give_it = by_swap (visitor_at r.state.phases c).swap refl where
    by_swap : (swap : SwapAt) → (visitor_at r.state.phases c).swap ≡ swap → may_give r.state.phases swap ≡ true
    by_swap (Drained o) is =
        let its = visitor_known r.state.phases r.sound.phases c mine.there in
        let own : v.visitor.swap ≡ Drained o = ap (λ (z : Visitor). z.swap) (sym mine.phases.visitor) ∙ is in
        let named : named_by (visitor_at r.state.phases c).swap ≡ Some o = ap named_by is in
        let lt : o < length r.state.phases.objects = rw r.sound.phases.in_scene.many_objects (its.swap_alone.there o named) in
        let known = object_known r.state.phases r.sound.phases o lt in
        let look = r.sound.phases.scene.looks o in
        let stage : look.stage ≡ Drained o = (its.swap_alone.owned o named).1 ∙ is in
        let settled : look.settled ≡ false = its.swap_alone.settled o is ∙ ap is_idle grace in
        let noted : look.noted ≡ Some look.incarnation =
        MatchBool-at_false (Unit {0}) (look.noted ≡ Some look.incarnation) settled (rw stage at known.freed_rows.stage) in
        let holds : r.sound.phases.scene.course.holder ≡ Some c = sym r.sound.phases.in_scene.in_course.role ∙ held_role in
        let note : note_at v.visitor.noted o ≡ Some look.incarnation =
        ap (λ (z : Visitor). note_at z.noted o) (sym mine.phases.visitor) ∙ its.frees_alone.noted holds o ∙ noted in
        let freed = mine.phases.rows.swept o look.incarnation (may.swept o look.incarnation own note) note in
        let same = known.bits_follow.incarnation in
        le-leb (object_at r.state.phases o).incarnation (object_at r.state.phases o).freed (omega (arith, freed, same))
    by_swap swap is = refl

  can : gens.is_possible s (GiveRole c) ≡ true
  can = rw grace refl

  abbrev g : Generations
  g = gens.given s c

  abbrev y : Visitor
  y = record (visitor_at r.state.phases c) { freeing = replicate (length (visitor_at r.state.phases c).freeing) (0, 0) }

  turn_is : IsTurn F laws declared table r id v at (Turn (GiveRole c)) g y r.beside.counts
  turn_is = record {
    possible = record {
      caller = mine.there;
      may = record {
        objects = tt;
        core = rw (can, may_give_it) refl;
        beside = ap (λ (z : turns.Caller O R). holds_none z.held) mine.cells.taker ∙ may.free;
      };
    };
    effect_is = refl;
    many_procs_same = refl;
    turns = λ d not_c. get_or-set_other s.callers c d (role_given x) _ not_c;
    graces = λ d not_c. refl;
    base = λ d p k not_c not_idle e. (k, e, refl);
    rises = λ p. le_refl (proc_at s p).generation;
  }

  generations_after : AreGenerations (set table.words role_word 0) g r.beside.counts
  generations_after = record {
    procs = λ p k e.
        let lt : p < 8 = let within = slice_get_within s.procs p k e in let few = procs_few F declared table r id v at in omega (arith, within, few) in
        processor_stays table.words role_word 0 p k (λ h. omega (arith, h, lt)) (λ h. omega (arith, h, lt)) (λ h. omega (arith, h, lt))
        (r.shows.generations.procs p k e);
    role = get_or-set_same table.words role_word 0 0 (let wide = r.shows.many_words in omega (arith, wide));
    graces = record {
      many = r.shows.generations.graces.many ∙ sym (length-set s.callers c (role_given x));
      few = r.shows.generations.graces.few;
    };
    begun = begun_goes s g r.beside.counts r.beside.counts 0 (omega arith) (λ p k e. (k, e, omega arith)) r.shows.generations.begun;
  }

  pass_after : KnowsPass F.tag_of (state_after F laws declared table r id v at (Turn (GiveRole c)) g y r.beside.counts) (with_counts r.beside r.beside.counts) id w
  pass_after =
      own_goes r.state g (visitors_after F laws declared table r id v at (Turn (GiveRole c)) g y r.beside.counts) v
      (role_given v.turn) (record v.visitor { freeing = replicate (length v.visitor.freeing) (0, 0) }) v.graces v.base (drop v.granted v.rows) 0
      F.tag_of r.beside r.beside.counts id mine
      (record {
        many = length-set r.state.phases.callers c y;
        rises = turn_is.rises;
        generations = record {
          turn = ap in_words (get_or-set_same s.callers c (role_given x) _ (there F declared table r id v at)) ∙ ap role_given turn_x;
          graces = mine.generations.graces;
          base = λ b asked not_idle. absurd (cc);
        };
        visitor_is =
            get_or-set_same r.state.phases.callers c y _ mine.there
            ∙ ap (λ (z : Visitor). record z { freeing = replicate (length z.freeing) (0, 0) }) mine.phases.visitor;
        place = refl;
        swap = same_swap v.visitor.swap;
        proc = refl;
        names = record {
          named = each_rest (λ row. r.beside.row_seat row ≡ id) v.rows v.granted mine.names.named;
          once = once_rest v.rows v.granted mine.names.once;
        };
        rows_known = record {
          old = each_rest (λ row. IsOld r.state.phases row) v.rows v.granted mine.phases.rows.old;
          granted = λ place row e. absurd (cc);
          swept = mine.phases.rows.swept;
          spans = λ o freed.
              let none = no_span (length v.visitor.freeing) o in
              absurd (let below : 0 < 0 = subst (λ (z : ℕ × ℕ). z.0 < z.1) none freed in omega (arith, below));
        };
      })

  -- the rule after the step, and its state
  pub gives_on : (after : Rule F declared (with_pass table (set table.words role_word 0) table.homes id w))
      × (after.state ≡ effect r.state (AtPhases (Turn (GiveRole c)))) × IsPossible F declared r.state (AtPhases (Turn (GiveRole c)))
  gives_on =
      turned F laws declared table r id v at (Turn (GiveRole c)) g y r.beside.counts turn_is role_word 0 w of_role generations_after pass_after

  pub rows_given : (found : ℕ) → RowsGiven v found
  rows_given found = mine.phases.rows.granted

pub give_moves : {S L P O R : Type 0} (F : Layouts S L P O R) → AreLaws F → (declared : List L) (id : ℕ) (v : PassView P O R) → MayGiveRole v
    → Moves F declared (AtPhases (Turn (GiveRole v.number))) role_word (λ word. 0) (λ found v. took steps.GiveRole role_word 0 (given_view v)) id v
give_moves {S} {L} {P} F laws declared id v may = logged_moves steps.GiveRole (λ n. 0) (λ found o before is. is) goes where
  goes : Moves F declared (AtPhases (Turn (GiveRole v.number))) role_word (λ word. 0) (λ found x. given_view x) id v
  goes = record { from = λ table r at. gives_on F laws declared table r id v at may }

pub give_finds : {S L P O R : Type 0} (F : Layouts S L P O R) → AreLaws F → (declared : List L) (id : ℕ) (v : PassView P O R) → MayGiveRole v
    → Finds F declared role_word RowsGiven id v
give_finds F laws declared id v may table r at = rows_given F laws declared table r id v at may (get_or table.words role_word 0)

pub give_allowed : {S L P O R : Type 0} (F : Layouts S L P O R) → AreLaws F → (declared : List L) (id callers : ℕ) (v : PassView P O R) (me : Seated P O R) → IsSeatOf me v
    → MayGiveRole v → (slots : ℕ) (step : Step (Slot P O R))
    → Allows (Ruled F declared callers) slots id me role_word (λ n. 0) (λ n. TellsWith (λ stored v. took steps.GiveRole role_word 0 (given_view v)) RowsGiven step me 0)
give_allowed F laws declared id callers v me is may slots step =
    seat_allowed_with (give_moves F laws declared id v may) RowsGiven (give_finds F laws declared id v may) me is slots step
