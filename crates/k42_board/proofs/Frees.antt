-- Freeing the noted rows of an object is allowed to a quiet pass.
use Rattle.std.proofs.Common.{◌≡◌, ◌≢◌, ℕ, ◌+◌, ◌<◌, ◌≤◌, Bool, true, false, cond, eqb, ltb, List, [], ◌∷◌, Option, Some, length, get_or, set, sym, refl, ap, ◌∙◌, subst, arith, le_refl, length-set, get_or-set_same, get_or-set_other}
use Rattle.std.specs.List.{slice_get}
use Rattle.std.specs.Option.{unwrap_or}
use Rattle.std.specs.Prelude.{max, ◌||◌}
use Rattle.std.proofs.Math.Nat.{max-eq_left, max-eq_right}
use Rattle.std.proofs.lemmas.Bool.{eqb-true, lt-ltb, le-ltb, ltb-true, ltb-false}
use Rattle.std.proofs.lemmas.Option.{slice_get_within, slice_get-get_or, same_Some}
use mathlib.Core.Option.{some}
use lib.ListN.{get_elem?}
use native.Mathlib.Decide.{ℕ_discrete}
use Rattle.atomic_table.specs.Table.{State, Step, Allows}
use Rattle.k42_places.specs.Places.{EachPlace}
use Rattle.k42_places.proofs.EachPlaces.{EachPlace-set_else}
use Rattle.gen_core.specs.Plain.{Caller}
use Rattle.gen_core.specs.State.{caller_at}
use Rattle.gen_core.specs.declared.state.GraceAt.TheVariants as graces
use Rattle.phase_core.specs.Event as phases
use Rattle.phase_core.specs.Plain.{Object, Visitor, Phases}
use Rattle.phase_core.specs.State.{object_at, visitor_at, note_at, span_at, fresh_object}
use Rattle.phase_core.proofs.InSound.{object_known, visitor_known}
use Rattle.k42_stamp.specs.Laws.{AreLaws}
use Rattle.k42_stamp.specs.Layouts.{Layouts}
use Rattle.k42_joined.specs.Effects.{effect}
use Rattle.k42_joined.specs.Event.{AtPhases}
use Rattle.k42_joined.specs.Plain.{Joined}
use Rattle.k42_joined.specs.Possible.{IsPossible}
use Rattle.k42_board.specs.Cells.{Slot}
use Rattle.k42_board.specs.Freeing.{MayFree, number_noted, freed_view, MarkFound}
use Rattle.k42_board.specs.Log.{took, step_at, has_swept}
use Rattle.k42_board.specs.Phases.{IsObjectShown, AreObjects, IsLastFreed, KnowsRows}
use Rattle.k42_board.specs.Rule.{KnowsPass, Rule, Ruled}
use Rattle.k42_board.specs.Seen.{IsSeatOf}
use Rattle.k42_board.specs.Steps.{Seated, TellsWith}
use Rattle.k42_board.specs.Words.{local_word, object_word, freed_word, freed_object, many_words}
use Rattle.k42_board.specs.declared.view.PassView.{PassView}
use Rattle.k42_board.specs.declared.view.StepName.TheVariants as steps
use Rattle.k42_board.specs.declared.view.Taken.{Taken}
use Rattle.k42_board.specs.declared.view.View.{View}
use Rattle.k42_board.specs.declared.view.View.TheVariants.{Crew}
use Rattle.k42_board.proofs.AtTables.{visited, Steps, AreSameRows, rows_same, same_visit, same_left, same_on, swap_stays, rows_stay, trace_stays, visits, written_shows, few_entries, IsOfTables}
use Rattle.k42_board.proofs.Holding.{role}
use Rattle.k42_board.proofs.Logged.{known_relogged}
use Rattle.k42_board.proofs.Moves.{Moves, Finds, seat_allowed_with}
use Rattle.k42_board.proofs.Notings.{note_there}
use Rattle.k42_board.proofs.OnePass.{with_pass, known}
use Rattle.k42_board.proofs.Turning.{stayed}

of_freed : (o : ℕ) → o < 16 → IsOfTables (freed_word o)
of_freed o small = record {
  generations = λ q lt e. omega arith;
  even = λ q lt e. omega arith;
  odd = λ q lt e. omega arith;
  role = λ e. omega arith;
  locks = λ n lt e. omega arith;
}

-- the object's mark is written
freed_written : (words : List ℕ) (objects : List Object) (o : ℕ) (k : Object) (n : ℕ) → length words ≡ many_words → length objects ≤ 16
    → EachPlace (λ q (m : Object). length m.entries ≤ 8) objects → o < 16 → slice_get objects o ≡ Some k
    → AreObjects words objects → AreObjects (set words (freed_word o) n) (set objects o (record k { freed = n }))
freed_written words objects o k n wide many long small here shown =
    EachPlace-set_else (IsObjectShown words) (IsObjectShown (set words (freed_word o) n)) objects o (record k { freed = n }) shown
    (let old = shown o k here in
    record {
      word = get_or-set_other words (freed_word o) (object_word o) n 0 (λ e. omega (arith, small, e)) ∙ old.word;
      freed = get_or-set_same words (freed_word o) n 0 (omega (arith, wide, small));
      entries = λ m x f.
          let near : m < 8 = let there = slice_get_within k.entries m x f in let most = long o k here in omega (arith, there, most) in
          get_or-set_other words (freed_word o) (local_word m o) n 0 (λ h. omega (arith, small, near, h)) ∙ old.entries m x f;
    })
    (λ q m else e old.
    let lt : q < 16 = let there = slice_get_within objects q m e in omega (arith, there, many) in
    record {
      word = get_or-set_other words (freed_word o) (object_word q) n 0 (λ h. omega (arith, small, lt, h)) ∙ old.word;
      freed = get_or-set_other words (freed_word o) (freed_word q) n 0 (λ h. else (omega (arith, h))) ∙ old.freed;
      entries = λ p x f.
          let near : p < 8 = let there = slice_get_within m.entries p x f in let most = long q m e in omega (arith, there, most) in
          get_or-set_other words (freed_word o) (local_word p q) n 0 (λ h. omega (arith, small, near, lt, h)) ∙ old.entries p x f;
    })

freed_object_is : (o : ℕ) → freed_object (freed_word o) ≡ o
freed_object_is o = omega arith

module _ {S L P O R : Type 0} (F : Layouts S L P O R) (laws : AreLaws F) (declared : List L)
    (table : State (Slot P O R) (View P O R)) (r : Rule F declared table) (id : ℕ) (v : PassView P O R)
    (at : get_elem? table.views id ≡ some (Crew (v ∷ []))) (objects o : ℕ) (may : MayFree objects o v) where
  abbrev s : Phases
  s = r.state.phases

  abbrev c : ℕ
  c = v.number

  abbrev k : Object
  k = object_at s o

  abbrev n : ℕ
  n = number_noted v o

  abbrev found : ℕ
  found = get_or table.words (freed_word o) 0

  mine : KnowsPass F.tag_of r.state r.beside id v
  mine = known F declared table r id v at

  visitor_here : visitor_at s c ≡ v.visitor
  visitor_here = mine.phases.visitor

  n_is : n ≡ may.number
  n_is = ap (λ (z : Option ℕ). unwrap_or z 0) may.known

  noted : note_at v.visitor.noted o ≡ Some n
  noted = may.known ∙ ap (λ (m : ℕ). Some m) (sym n_is)

  its_notes : length v.visitor.noted ≡ length s.objects
  its_notes =
      ap (λ (z : Visitor). length z.noted) (sym visitor_here)
      ∙ (visitor_known s r.sound.phases c mine.there).frees_alone.many_noted ∙ sym r.sound.phases.in_scene.many_objects

  lt : o < length s.objects
  lt = let within = note_there v.visitor.noted o n noted in let long = its_notes in omega (arith, within, long)

  small : o < 16
  small = let few = r.shows.few_objects in let within = lt in omega (arith, few, within)

  at_o : slice_get s.objects o ≡ Some k
  at_o = slice_get-get_or s.objects o fresh_object lt

  found_is : found ≡ k.freed
  found_is = (r.shows.objects o k at_o).freed

  freeing_there : o < length v.visitor.freeing
  freeing_there =
      let long = ap (λ (z : Visitor). length z.freeing) (sym visitor_here) ∙ (visitor_known s r.sound.phases c mine.there).frees_alone.many_freeing in
      let many = r.sound.phases.in_scene.many_objects in let within = lt in omega (arith, long, many, within)

  busy : v.turn.grace ≢ graces.Idle
  busy idle = absurd (let quiet = may.quiet in cc)

  -- the number is not above the incarnation, which is one above the mark at most
  low : n ≤ k.incarnation
  low =
      let holds : r.sound.phases.scene.course.holder ≡ Some c = sym r.sound.phases.in_scene.in_course.role ∙ role F declared table r id v at busy in
      let of = object_known s r.sound.phases o lt in
      let its = (visitor_known s r.sound.phases c mine.there).frees_alone.noted holds o in
      let note : (r.sound.phases.scene.looks o).noted ≡ Some n = sym its ∙ ap (λ (z : Visitor). note_at z.noted o) visitor_here ∙ noted in
      let few = of.freed_rows.noted n note in let same = of.bits_follow.incarnation in omega (arith, few, same)

  near : k.incarnation ≤ k.freed + 1
  near = (r.sound.cells.locks.counted o lt).kept

  pub mark_found : MarkFound o v found
  mark_found = record {
    short = λ below. let is = found_is in let most = low in let least = near in omega (arith, below, is, most, least);
    there = freeing_there;
  }

  frees : IsPossible F declared r.state (AtPhases (phases.Free c o))
  frees = record {
    caller = mine.there;
    may = record {
      objects = lt;
      core =
          let quiet : (caller_at s.turns c).grace ≡ graces.Quiet = ap (λ (z : Caller). z.grace) mine.generations.turn ∙ may.quiet in
          let note : note_at (visitor_at s c).noted o ≡ Some n = ap (λ (z : Visitor). note_at z.noted o) visitor_here ∙ noted in
          rw (quiet, note) refl;
      beside = refl;
    };
  }

  number_is : unwrap_or (note_at (visitor_at s c).noted o) 0 ≡ n
  number_is = ap (λ (z : Visitor). unwrap_or (note_at z.noted o) 0) visitor_here

  -- what the pass has taken then
  abbrev log : List Taken
  log = step_at steps.Free (freed_word o) found ∷ v.log

  -- of which objects all noted rows are freed now
  swept_now : (t : Phases) → ((q : ℕ) → (object_at s q).freed ≤ (object_at t q).freed) → n ≤ (object_at t o).freed
      → (q m : ℕ) → has_swept log q ≡ true → note_at v.visitor.noted q ≡ Some m → m ≤ (object_at t q).freed
  swept_now t more done q m named note = by_test (eqb (freed_object (freed_word o)) q) refl named where
    by_test : (b : Bool) → eqb (freed_object (freed_word o)) q ≡ b → (b || has_swept v.log q) ≡ true → m ≤ (object_at t q).freed
    by_test true e is =
        let same : o ≡ q = sym (freed_object_is o) ∙ eqb-true (freed_object (freed_word o)) q e in
        let number : n ≡ m = same_Some n m (sym noted ∙ ap (note_at v.visitor.noted) same ∙ note) in
        subst (λ (z : ℕ). m ≤ (object_at t z).freed) same (omega (arith, done, number))
    by_test false e is = let was = mine.phases.rows.swept q m is note in let rise = more q in omega (arith, was, rise)

  -- the mark is short of the number

  abbrev m : ℕ
  m = unwrap_or (note_at (visitor_at s c).noted o) 0

  abbrev k' : Object
  k' = record k { freed = m }

  abbrev x : Visitor
  x = record (visitor_at s c) { freeing = set (visitor_at s c).freeing o (k.freed, m) }

  abbrev y : Visitor
  y = record v.visitor { freeing = set v.visitor.freeing o (found, n) }

  abbrev w : PassView P O R
  w = took steps.Free (freed_word o) found (record v { visitor = y })

  abbrev t : Joined L O R
  t = visited r.state (set s.objects o k') (set s.callers c x) r.state.kept

  x_is : x ≡ y
  x_is = λ j. record (visitor_here j) { freeing = set (visitor_here j).freeing o (sym found_is j, number_is j) }

  object_here : object_at t.phases o ≡ k'
  object_here = get_or-set_same s.objects o k' fresh_object lt

  module _ (below : k.freed < m) where
    rows : AreSameRows r.state (set s.objects o k') (set s.callers c x) r.state.kept
    rows = rows_same r.state o k' (set s.callers c x) r.state.kept lt (record { shapes = refl; layout = refl; incarnation = refl; complete = refl; freed = omega (arith, below) })

    effect_is : t ≡ effect r.state (AtPhases (phases.Free c o))
    effect_is =
        ap (λ (b : Bool). record r.state { phases = cond b (record s { objects = set s.objects o k'; callers = set s.callers c x }) s })
        (sym (lt-ltb k.freed m below))

    done : n ≤ (object_at t.phases o).freed
    done = let same = ap (λ (z : Object). z.freed) object_here in let number = number_is in omega (arith, same, number)

    -- the row that is freed is the last one
    spans_now : (q : ℕ) → (span_at y.freeing q).0 < (span_at y.freeing q).1 → IsLastFreed (span_at y.freeing q) (object_at t.phases q)
    spans_now q = by_object (ℕ_discrete q o) where
      old : KnowsRows t.phases v
      old = rows_stay r.state t v (same_on r.state (set s.objects o k') (set s.callers c x) r.state.kept rows)
          (same_left r.state (set s.objects o k') (set s.callers c x) r.state.kept rows v).spans mine.phases.rows

      by_object : Dec (q ≡ o) → (span_at y.freeing q).0 < (span_at y.freeing q).1 → IsLastFreed (span_at y.freeing q) (object_at t.phases q)
      by_object (no else) =
          subst (λ (z : ℕ × ℕ). z.0 < z.1 → IsLastFreed z (object_at t.phases q)) (sym (get_or-set_other v.visitor.freeing o q (found, n) (0, 0) else)) (old.spans q)
      by_object (yes e) =
          subst (λ (z : ℕ). (span_at y.freeing z).0 < (span_at y.freeing z).1 → IsLastFreed (span_at y.freeing z) (object_at t.phases z)) (sym e)
          (subst (λ (z : ℕ × ℕ). z.0 < z.1 → IsLastFreed z (object_at t.phases o)) (sym (get_or-set_same v.visitor.freeing o (found, n) (0, 0) freeing_there))
          (λ short. record {
            one = mark_found.short short;
            last =
                let same = ap (λ (z : Object). z.incarnation) object_here in let is = found_is in
                let most = low in let least = near in omega (arith, same, is, most, least, short);
          }))

    pass_after : KnowsPass F.tag_of t r.beside id w
    pass_after =
        let left = same_left r.state (set s.objects o k') (set s.callers c x) r.state.kept rows v in
        let on = same_on r.state (set s.objects o k') (set s.callers c x) r.state.kept rows in
        let swap = swap_stays r.state t v left.swap mine.phases.swap in
        let old = rows_stay r.state t v on left.spans mine.phases.rows in
        let trace = trace_stays r.state (set s.objects o k') (set s.callers c x) r.state.kept v left F.tag_of refl mine.trace in
        record {
          there = rw (length-set s.callers c x) mine.there;
          seat = mine.seat;
          names = mine.names;
          generations = record { turn = mine.generations.turn; graces = mine.generations.graces; base = mine.generations.base };
          phases = record {
            visitor = get_or-set_same s.callers c x _ mine.there ∙ x_is;
            shapes = λ q. mine.phases.shapes q ∙ sym (on.shapes q);
            layout = λ l q i e inside. left.place q i inside ∙ mine.phases.layout l q i e inside;
            learned = mine.phases.learned;
            swap = record { turned = swap.turned; layout_begun = swap.layout_begun; begun = swap.begun; next = swap.next };
            rows = record { old = old.old; granted = old.granted; swept = swept_now t.phases on.freed done; spans = spans_now };
          };
          cells = record { taker = mine.cells.taker; notes = mine.cells.notes; noted = mine.cells.noted; out = mine.cells.out; only = mine.cells.only };
          trace = record {
            kept = trace.kept;
            found = trace.found;
            over = trace.over;
            handed = trace.handed;
            unhanded = trace.unhanded;
            times = trace.times;
          };
        }

    frees_rows : Steps F declared r.state (AtPhases (phases.Free c o)) (with_pass table (set table.words (freed_word o) m) table.homes id w)
    frees_rows =
        visits F laws declared table r id v at (phases.Free c o) (set s.objects o k') r.state.kept x
        (same_visit F laws declared table r id v at (phases.Free c o) (set s.objects o k') r.state.kept x frees effect_is rows (λ d else. refl))
        (set table.words (freed_word o) m) w
        (written_shows F laws declared table r id v at (set s.objects o k') x r.state.kept (freed_word o) m w (of_freed o small) (length-set s.objects o k')
        (freed_written table.words s.objects o k m r.shows.many_words r.shows.few_objects (few_entries F laws declared table r id v at) small at_o r.shows.objects))
        pass_after

  -- or not: nothing is freed

  abbrev w' : PassView P O R
  w' = took steps.Free (freed_word o) found v

  nothing_freed : m ≤ k.freed → Steps F declared r.state (AtPhases (phases.Free c o)) (with_pass table (set table.words (freed_word o) found) table.homes id w')
  nothing_freed above =
      let after = stayed F declared table r id v at (freed_word o) w'
      (known_relogged F.tag_of r.state r.beside id v log (swept_now s (λ q. le_refl (object_at s q).freed) (let number = number_is in omega (arith, number, above))) mine) in
      (after.0, after.1 ∙ ap (λ (b : Bool). record r.state { phases = cond b (record s { objects = set s.objects o k'; callers = set s.callers c x }) s }) (sym (le-ltb k.freed m above)), frees)

  -- the rule after the step, and its state
  pub frees_on : Steps F declared r.state (AtPhases (phases.Free c o)) (with_pass table (set table.words (freed_word o) (max found n)) table.homes id (took steps.Free (freed_word o) found (freed_view o found v)))
  frees_on = by_test (ltb found n) refl where
    by_test : (b : Bool) → ltb found n ≡ b
        → Steps F declared r.state (AtPhases (phases.Free c o))
        (with_pass table (set table.words (freed_word o) (max found n)) table.homes id
        (took steps.Free (freed_word o) found (record v {
          visitor = cond b (record v.visitor { freeing = set v.visitor.freeing o (found, n) }) v.visitor;
        })))
    by_test true e =
        let less : found < n = ltb-true found n e in
        let is = found_is in let number = number_is in
        subst (λ (z : ℕ). Steps F declared r.state (AtPhases (phases.Free c o)) (with_pass table (set table.words (freed_word o) z) table.homes id w))
        (number ∙ sym (max-eq_right {n = found} {m = n} (omega (arith, less)))) (frees_rows (omega (arith, less, is, number)))
    by_test false e =
        let more : n ≤ found = ltb-false found n e in
        let is = found_is in let number = number_is in
        subst (λ (z : ℕ). Steps F declared r.state (AtPhases (phases.Free c o)) (with_pass table (set table.words (freed_word o) z) table.homes id w'))
        (sym (max-eq_left {n = found} {m = n} more)) (nothing_freed (omega (arith, more, is, number)))

pub free_moves : {S L P O R : Type 0} (F : Layouts S L P O R) → AreLaws F → (declared : List L) (id i objects o : ℕ) (v : PassView P O R) → MayFree objects o v → i ≡ freed_word o
    → Moves F declared (AtPhases (phases.Free v.number o)) i (λ word. max word (number_noted v o)) (λ found v. took steps.Free i found (freed_view o found v)) id v
free_moves F laws declared id i objects o v may same =
    subst (λ (j : ℕ). Moves F declared (AtPhases (phases.Free v.number o)) j (λ word. max word (number_noted v o)) (λ found v. took steps.Free j found (freed_view o found v)) id v)
    (sym same) (record { from = λ table r at. frees_on F laws declared table r id v at objects o may })

free_finds : {S L P O R : Type 0} (F : Layouts S L P O R) → AreLaws F → (declared : List L) (id i objects o : ℕ) (v : PassView P O R) → MayFree objects o v → i ≡ freed_word o
    → Finds F declared i (MarkFound o) id v
free_finds F laws declared id i objects o v may same table r at =
    subst (λ (j : ℕ). MarkFound o v (get_or table.words j 0)) (sym same) (mark_found F laws declared table r id v at objects o may)

-- the object of the step's word is this one
object_of_word : (i o : ℕ) → i ≡ freed_word o → freed_object i ≡ o
object_of_word i o same = ap freed_object same ∙ freed_object_is o

pub free_allowed : {S L P O R : Type 0} (F : Layouts S L P O R) → AreLaws F → (declared : List L) (id callers i objects o : ℕ) (v : PassView P O R) (me : Seated P O R) → IsSeatOf me v
    → MayFree objects o v → i ≡ freed_word o → (number : ℕ) → number_noted v o ≡ number → (slots : ℕ) (step : Step (Slot P O R))
    → Allows (Ruled F declared callers) slots id me i (λ n. max n number)
    (TellsWith (λ found v. took steps.Free i found (freed_view (freed_object i) found v)) (MarkFound (freed_object i)) step me)
free_allowed F laws declared id callers i objects o v me is may here number same slots step =
    subst (λ (z : ℕ × ℕ). Allows (Ruled F declared callers) slots id me i (λ n. max n z.0) (TellsWith (λ found v. took steps.Free i found (freed_view z.1 found v)) (MarkFound z.1) step me))
    (λ j. (same j, sym (object_of_word i o here) j))
    (seat_allowed_with (free_moves F laws declared id i objects o v may here) (MarkFound o) (free_finds F laws declared id i objects o v may here) me is slots step)

-- what the step tells is of this object
pub free_told : {P O R : Type 0} (i o : ℕ) (me after : Seated P O R) → i ≡ freed_word o → (step : Step (Slot P O R)) (found : ℕ)
    → TellsWith (λ found v. took steps.Free i found (freed_view (freed_object i) found v)) (MarkFound (freed_object i)) step me found after
    → TellsWith (λ found v. took steps.Free i found (freed_view o found v)) (MarkFound o) step me found after
free_told i o me after here step found told =
    subst (λ (z : ℕ). TellsWith (λ found v. took steps.Free i found (freed_view z found v)) (MarkFound z) step me found after) (object_of_word i o here) told
