-- An event of one caller at the tables, as a step of one pass.
use Rattle.std.proofs.Common.{◌≡◌, ◌≢◌, ℕ, ◌<◌, ◌≤◌, Bool, true, List, [], ◌∷◌, Option, Some, None, length, get_or, set, sym, refl, ap, ◌∙◌, subst, arith, le_refl, take, length-set, get_or-set_same, get_or-set_other}
use Rattle.std.specs.List.{slice_get, slice_index}
use mathlib.Core.Option.{some}
use lib.ListN.{get_elem?}
use Rattle.atomic_table.specs.Table.{State}
use Rattle.k42_places.specs.Places.{EachPlace}
use Rattle.phase_core.specs.Event.{Event}
use Rattle.phase_core.specs.Plain.{Object, Visitor, Phases}
use Rattle.phase_core.specs.Stages.{IsInside, named_by, is_moved, object_named}
use Rattle.phase_core.specs.State.{object_at, visitor_at, note_at, span_at, fresh_object, fresh_visitor, put_entry}
use Rattle.phase_core.specs.declared.caller.SwapAt.{SwapAt}
use Rattle.phase_core.specs.declared.caller.SwapAt.TheVariants.{Moved, Opened}
use Rattle.k42_stamp.specs.Laws.{AreLaws}
use Rattle.k42_stamp.specs.Layouts.{Layouts}
use Rattle.k42_joined.specs.Answers.{is_turned}
use Rattle.k42_joined.specs.Effects.{effect}
use Rattle.k42_joined.specs.Event as joined
use Rattle.k42_joined.specs.Event.{AtPhases}
use Rattle.k42_joined.specs.Found.{tells_over}
use Rattle.k42_kinds.specs.declared.entry.Answer.{Answer}
use Rattle.k42_joined.specs.Numbers.{object_of}
use Rattle.k42_joined.specs.Plain.{Kept, Joined}
use Rattle.k42_joined.specs.Possible.{IsPossible}
use Rattle.k42_joined.specs.Sound.{IsSound}
use Rattle.k42_joined.specs.State.{kept_of, is_handed, many_procs}
use Rattle.k42_joined.proofs.Kept.{joined_keeps}
use Rattle.k42_board.specs.Cells.{Slot, Contents, IsCellShown}
use Rattle.k42_board.specs.Generations.{Counts, AreGenerations}
use Rattle.k42_board.specs.Words.{generation_word, exits_word, role_word, lock_word, local_word, object_word, freed_word, many_words}
use Rattle.k42_board.proofs.Begun.{processor_stays}
use Rattle.k42_places.proofs.EachPlaces.{EachPlace-set_else}
use Rattle.gen_core.specs.Plain.{Generations}
use Rattle.turn_core.specs.Plain.{Cell}
use Rattle.phase_core.specs.declared.object.LocalEntry.{LocalEntry}
use native.Mathlib.Decide.{ℕ_discrete}
use Rattle.std.proofs.lemmas.Option.{slice_get_within}
use mathlib.Core.Option as maybe
use Rattle.k42_board.specs.Parts.{IsPart}
use Rattle.k42_board.specs.Phases.{IsObjectShown, AreObjects, IsOld, IsGranted, IsLastFreed, KnowsSwap, KnowsRows, KnowsPhases, is_served}
use Rattle.k42_board.specs.Rule.{Beside, NamesRows, KnowsPass, Shows, Rule}
use Rattle.k42_board.specs.Tabling.{went}
use Rattle.k42_board.specs.Trace.{KnowsTrace}
use Rattle.k42_board.specs.Values.{local_value, object_value}
use Rattle.k42_board.specs.Views.{object_begun}
use Rattle.k42_board.specs.declared.view.LastBegin.{LastBegin}
use Rattle.phase_core.specs.declared.caller.Place.{Place}
use Rattle.k42_board.specs.declared.view.PassView.{PassView}
use Rattle.k42_board.specs.declared.view.Row.{Row}
use Rattle.k42_board.specs.declared.view.View.{View}
use Rattle.k42_board.specs.declared.view.View.TheVariants.{Crew}
use Rattle.k42_board.proofs.OnePass.{with_pass, known, LeavesOthers, moved}

-- the state with these objects and visitors, and where this is kept
abbrev pub visited : {L O R : Type 0} → Joined L O R → List Object → List Visitor → List (Kept R) → Joined L O R
visited s objects visitors kept =
    record s { phases = record s.phases { objects = objects; callers = visitors }; kept = kept }

-- the rule stands in this table, in the state of the event, which was possible
abbrev pub Steps : {S L P O R : Type 0} → Layouts S L P O R → List L → Joined L O R → joined.Event L O R → State (Slot P O R) (View P O R) → Type 0
Steps F declared s event table = (after : Rule F declared table) × (after.state ≡ effect s event) × IsPossible F declared s event

-- a table shows no names
pub shows_naming : {L P O R : Type 0} (s : Joined L O R) (beside : Beside P) (naming : Row → ℕ) (table : State (Slot P O R) (View P O R)) → Shows s beside table
    → Shows s (record beside { row_seat = naming }) table
shows_naming s beside naming table shows = record {
  many_words = shows.many_words;
  many_slots = shows.many_slots;
  few_objects = shows.few_objects;
  few_entries = shows.few_entries;
  generations = shows.generations;
  objects = shows.objects;
  cells = shows.cells;
}

-- the object is in the same row, of which no more is kept than was
pub record IsSameRow (k l : Object) : Type 0 where
  pub shapes : l.shapes ≡ k.shapes
  pub layout : l.layout ≡ k.layout
  pub incarnation : l.incarnation ≡ k.incarnation
  pub complete : l.complete ≡ k.complete
  pub freed : k.freed ≤ l.freed

pub same_row : (k : Object) → IsSameRow k k
same_row k = record { shapes = refl; layout = refl; incarnation = refl; complete = refl; freed = le_refl k.freed }

-- what is true of rows that were handed on, and freed, stays
pub record GoesOn {L O R : Type 0} (s t : Joined L O R) : Type 0 where
  pub shapes : (o : ℕ) → (object_at t.phases o).shapes ≡ (object_at s.phases o).shapes
  pub old : (row : Row) → IsOld s.phases row → IsOld t.phases row
  pub freed : (o : ℕ) → (object_at s.phases o).freed ≤ (object_at t.phases o).freed

-- what a pass knows of the objects that it names stays
pub record IsUndisturbed {L P O R : Type 0} (s t : Joined L O R) (x : PassView P O R) : Type 0 where
  pub place :
      (o i : ℕ) → IsInside x.visitor.place o i → (object_at t.phases o).layout ≡ (object_at s.phases o).layout
  pub swap : (o : ℕ) → named_by x.visitor.swap ≡ Some o → IsSameRow (object_at s.phases o) (object_at t.phases o)
  pub spans :
      (o : ℕ) → (span_at x.visitor.freeing o).0 < (span_at x.visitor.freeing o).1
      → (object_at t.phases o).incarnation ≡ (object_at s.phases o).incarnation
  pub over :
      (answer : Answer R) → x.found ≡ Some answer → tells_over answer ≡ true
      → (object_at t.phases (object_begun x.last)).incarnation ≡ (object_at s.phases (object_begun x.last)).incarnation

turned_stays : {L O R : Type 0} (s t : Joined L O R) (swap : SwapAt)
    → ((o : ℕ) → named_by swap ≡ Some o → IsSameRow (object_at s.phases o) (object_at t.phases o))
    → is_turned swap (object_at t.phases (object_named swap)) ≡ is_turned swap (object_at s.phases (object_named swap))
turned_stays s t (Opened o) same = (same o refl).complete
turned_stays s t swap same = refl

pub moved_names : (swap : SwapAt) → is_moved swap ≡ true → named_by swap ≡ Some (object_named swap)
moved_names (Moved o) e = refl
moved_names swap e = absurd (cc)

-- what a pass knows of its swap and of rows stays
module _ {L P O R : Type 0} (s t : Joined L O R) (x : PassView P O R) where
  pub swap_stays : ((o : ℕ) → named_by x.visitor.swap ≡ Some o → IsSameRow (object_at s.phases o) (object_at t.phases o))
      → KnowsSwap s.phases x → KnowsSwap t.phases x
  swap_stays same knows = record {
    turned = knows.turned ∙ sym (turned_stays s t x.visitor.swap same);
    layout_begun = λ o named not. knows.layout_begun o named not ∙ sym (same o named).layout;
    begun = λ o named not. knows.begun o named not ∙ sym (same o named).incarnation;
    next = λ o named is. knows.next o named is ∙ sym (same o named).incarnation;
  }

  pub rows_stay : GoesOn s t
      → ((o : ℕ) → (span_at x.visitor.freeing o).0 < (span_at x.visitor.freeing o).1 → (object_at t.phases o).incarnation ≡ (object_at s.phases o).incarnation)
      → KnowsRows s.phases x → KnowsRows t.phases x
  rows_stay on same knows = record {
    old = λ place row e. on.old row (knows.old place row e);
    granted = knows.granted;
    swept = λ o n named is. let was = knows.swept o n named is in let more = on.freed o in omega (arith, was, more);
    spans = λ o some. let was = knows.spans o some in record { one = was.one; last = was.last ∙ sym (same o some) };
  }

module _ {L O R : Type 0} (s : Joined L O R) (objects : List Object) (visitors : List Visitor) (kept : List (Kept R)) where
  abbrev pub t : Joined L O R
  t = visited s objects visitors kept

  pub record AreSameRows : Type 0 where
    pub many : length objects ≡ length s.phases.objects
    pub each : (o : ℕ) → IsSameRow (object_at s.phases o) (object_at t.phases o)

  -- where no object goes to another row, all that is known stays
  module _ (rows : AreSameRows) where
    old_stays : (row : Row) → IsOld s.phases row → IsOld t.phases row
    old_stays row old =
        let same = rows.each row.object in
        (rw same.incarnation old.0, λ done. rw same.incarnation (old.1 (sym same.complete ∙ done)))

    pub same_on : GoesOn s t
    same_on = record { shapes = λ o. (rows.each o).shapes; old = old_stays; freed = λ o. (rows.each o).freed }

    pub same_left : {P : Type 0} (x : PassView P O R) → IsUndisturbed s t x
    same_left x = record {
      place = λ o i inside. (rows.each o).layout;
      swap = λ o named. rows.each o;
      spans = λ o some. (rows.each o).incarnation;
      over = λ answer e tells. (rows.each (object_begun x.last)).incarnation;
    }

  -- a pass that does nothing
  module _ {P : Type 0} (x : PassView P O R) (left : IsUndisturbed s t x) where
    handed_same : is_moved x.visitor.swap ≡ true → is_handed t (object_named x.visitor.swap) ≡ is_handed s (object_named x.visitor.swap)
    handed_same moved = rw (left.swap (object_named x.visitor.swap) (moved_names x.visitor.swap moved)).incarnation refl

    pub trace_stays : (tag_of : L → ℕ) → kept_of t x.number ≡ kept_of s x.number → KnowsTrace tag_of s x → KnowsTrace tag_of t x
    trace_stays tag_of same knows = record {
      kept = same ∙ knows.kept;
      found = knows.found;
      over = λ answer e tells. knows.over answer e tells ∙ sym (left.over answer e tells);
      handed = λ tag e. let old = knows.handed tag e in (old.0, rw (handed_same old.0) old.1);
      unhanded = λ e is. handed_same is ∙ knows.unhanded e is;
      times = knows.times;
    }

    phases_stay : GoesOn s t → visitor_at t.phases x.number ≡ visitor_at s.phases x.number → KnowsPhases s.phases x → KnowsPhases t.phases x
    phases_stay on other knows = record {
      visitor = other ∙ knows.visitor;
      shapes = λ o. knows.shapes o ∙ sym (on.shapes o);
      layout = λ l o i e inside. left.place o i inside ∙ knows.layout l o i e inside;
      learned = knows.learned;
      swap = swap_stays s t x left.swap knows.swap;
      rows = rows_stay s t x on left.spans knows.rows;
    }

    -- and where its rows keep their names
    pub pass_stays : (tag_of : L → ℕ) (beside : Beside P) (naming : Row → ℕ) → ((row : Row) → IsOld s.phases row → naming row ≡ beside.row_seat row)
        → GoesOn s t → (j : ℕ) → length visitors ≡ length s.phases.callers
        → visitor_at t.phases x.number ≡ visitor_at s.phases x.number → kept_of t x.number ≡ kept_of s x.number
        → KnowsPass tag_of s beside j x → KnowsPass tag_of t (record beside { row_seat = naming }) j x
    pass_stays tag_of beside naming same_names on j many visitor same knows = record {
      there = rw many knows.there;
      seat = knows.seat;
      names = record {
        named = λ place row e. same_names row (knows.phases.rows.old place row e) ∙ knows.names.named place row e;
        once = knows.names.once;
      };
      generations = knows.generations;
      phases = phases_stay on visitor knows.phases;
      cells = knows.cells;
      trace = trace_stays tag_of same knows.trace;
    }

  -- the parts that are due are as before
  pub part_stays : {S P : Type 0} (F : Layouts S L P O R) (declared : List L) (on : GoesOn s t) (n : ℕ) (part : Option P)
      → IsPart F declared s n part → IsPart F declared t n part
  part_stays F declared on n part is = record {
    due = λ declaration chain row declares of here kept.
        is.due declaration chain row declares (record { fits = of.fits; layouts = of.layouts }) here
        (let same = on.freed (object_of n) in omega (arith, kept, same));
    before = is.before;
  }

-- the pass with this in place of what it knew of tables and swaps
abbrev pub told :
    {P O R : Type 0} → PassView P O R → Visitor → Option LastBegin → Option (Answer R) → Bool → Bool → Option ℕ → Option ℕ → List Row
    → PassView P O R
told v x last found abandoned turned layout handed rows = record v {
  visitor = x;
  last = last;
  found = found;
  abandoned = abandoned;
  turned = turned;
  layout = layout;
  handed = handed;
  rows = rows;
}

-- The pass itself: what it knows of its activity and its cells stays.
module _ {L P O R : Type 0} (tag_of : L → ℕ) (s : Joined L O R) (objects : List Object) (visitors : List Visitor) (kept : List (Kept R))
    (beside : Beside P) (id : ℕ) (v : PassView P O R) (knows : KnowsPass tag_of s beside id v)
    (x : Visitor) (last : Option LastBegin) (found : Option (Answer R)) (abandoned turned : Bool) (layout handed : Option ℕ)
    (rows : List Row) where
  abbrev own : PassView P O R
  own = told v x last found abandoned turned layout handed rows

  pub own_after : (naming : Row → ℕ) → length visitors ≡ length s.phases.callers → NamesRows (record beside { row_seat = naming }) id rows
      → KnowsPhases (visited s objects visitors kept).phases own → KnowsTrace tag_of (visited s objects visitors kept) own
      → KnowsPass tag_of (visited s objects visitors kept) (record beside { row_seat = naming }) id own
  own_after naming many names phases trace = record {
    there = rw many knows.there;
    seat = knows.seat;
    names = names;
    generations = record {
      turn = knows.generations.turn;
      graces = knows.generations.graces;
      base = knows.generations.base;
    };
    phases = phases;
    cells = record { taker = knows.cells.taker; notes = knows.cells.notes; noted = knows.cells.noted; out = knows.cells.out; only = knows.cells.only };
    trace = trace;
  }

  -- of rows it knows as much, and of those that are new too
  pub rows_told : (p : Phases) → x.noted ≡ v.visitor.noted → x.freeing ≡ v.visitor.freeing → take v.granted rows ≡ take v.granted v.rows
      → EachPlace (λ place row. IsOld p row) rows → KnowsRows p v → KnowsRows p own
  rows_told p noted freeing granted old was = record {
    old = old;
    granted = subst (λ (z : List (Option ℕ) × List Row). EachPlace (λ place row. IsGranted z.0 row) z.1) (λ j. (sym noted j, sym granted j)) was.granted;
    swept = λ o n named is. was.swept o n named (ap (λ z. note_at z o) (sym noted) ∙ is);
    spans =
        subst (λ (z : List (ℕ × ℕ)). (o : ℕ) → (span_at z o).0 < (span_at z o).1 → IsLastFreed (span_at z o) (object_at p o)) (sym freeing)
        was.spans;
  }

module _ {S L P O R : Type 0} (F : Layouts S L P O R) (laws : AreLaws F) (declared : List L)
    (table : State (Slot P O R) (View P O R)) (r : Rule F declared table) (id : ℕ) (v : PassView P O R)
    (at : get_elem? table.views id ≡ some (Crew (v ∷ [])))
    (e : Event) (objects : List Object) (kept : List (Kept R)) (x : Visitor) where
  abbrev pub visitors_after : List Visitor
  visitors_after = set r.state.phases.callers v.number x

  abbrev pub state_after : Joined L O R
  state_after = visited r.state objects visitors_after kept

  knows : KnowsPass F.tag_of r.state r.beside id v
  knows = known F declared table r id v at

  -- what the event does, and what it leaves
  pub record IsVisit : Type 0 where
    pub possible : IsPossible F declared r.state (AtPhases e)
    pub effect_is : state_after ≡ effect r.state (AtPhases e)
    pub on : GoesOn r.state state_after
    pub left : (j : ℕ) (y : PassView P O R) → y.number ≢ v.number → KnowsPass F.tag_of r.state r.beside j y → IsUndisturbed r.state state_after y
    pub kept_else : (d : ℕ) → d ≢ v.number → kept_of state_after d ≡ kept_of r.state d

  pub same_visit : IsPossible F declared r.state (AtPhases e) → state_after ≡ effect r.state (AtPhases e)
      → AreSameRows r.state objects visitors_after kept → ((d : ℕ) → d ≢ v.number → kept_of state_after d ≡ kept_of r.state d) → IsVisit
  same_visit possible is rows kept_else = record {
    possible = possible;
    effect_is = is;
    on = same_on r.state objects visitors_after kept rows;
    left = λ j y not was. same_left r.state objects visitors_after kept rows y;
    kept_else = kept_else;
  }

  pub visitor_is : visitor_at state_after.phases v.number ≡ x
  visitor_is = get_or-set_same r.state.phases.callers v.number x fresh_visitor knows.there

  pub many_after : length visitors_after ≡ length r.state.phases.callers
  many_after = length-set r.state.phases.callers v.number x

  module _ (visit : IsVisit) (naming : Row → ℕ) (same_names : (row : Row) → IsOld r.state.phases row → naming row ≡ r.beside.row_seat row) where
    abbrev pub beside_after : Beside P
    beside_after = record r.beside { row_seat = naming }

    leaves : LeavesOthers F declared table r id v at state_after beside_after
    leaves = record {
      passes = λ j y not was.
          pass_stays r.state objects visitors_after kept y (visit.left j y not was) F.tag_of r.beside naming same_names visit.on j many_after
          (get_or-set_other r.state.phases.callers v.number y.number x fresh_visitor not) (visit.kept_else y.number not) was;
      named = λ j row not old is. (visit.on.old row old, same_names row old ∙ is);
      drawn = λ stamp known. known;
    }

    sound : IsSound F declared state_after
    sound = subst (λ z. IsSound F declared z) (sym visit.effect_is) (joined_keeps F laws declared r.state r.sound (AtPhases e) visit.possible)

    -- the pass moved by the event
    pub visits_naming : (words : List ℕ) (w : PassView P O R)
        → Shows state_after r.beside (with_pass table words table.homes id w) → KnowsPass F.tag_of state_after beside_after id w
        → Steps F declared r.state (AtPhases e) (with_pass table words table.homes id w)
    visits_naming words w shows mine =
        let after = moved F declared table r id v at state_after beside_after words table.homes w leaves sound
        (shows_naming state_after r.beside naming (with_pass table words table.homes id w) shows)
        (λ n lt. part_stays r.state objects visitors_after kept F declared visit.on n (r.beside.contents.part n) (r.parts n lt))
        mine
        in (after.0, after.1 ∙ visit.effect_is, visit.possible)

  pub visits : IsVisit → (words : List ℕ) (w : PassView P O R)
      → Shows state_after r.beside (with_pass table words table.homes id w) → KnowsPass F.tag_of state_after r.beside id w
      → Steps F declared r.state (AtPhases e) (with_pass table words table.homes id w)
  visits visit words w shows mine = visits_naming visit r.beside.row_seat (λ row old. refl) words w shows mine

-- a pass that goes on in its call
module _ {S L P O R : Type 0} (F : Layouts S L P O R) (laws : AreLaws F) (declared : List L)
    (table : State (Slot P O R) (View P O R)) (r : Rule F declared table) (id : ℕ) (v : PassView P O R)
    (at : get_elem? table.views id ≡ some (Crew (v ∷ [])))
    (objects : List Object) (place : Place) (read : List (ℕ × ℕ)) (layout : Option ℕ) where
  abbrev pub visitor_gone : Visitor
  visitor_gone = record v.visitor { place = place; read = read }

  abbrev visitors_gone : List Visitor
  visitors_gone = set r.state.phases.callers v.number visitor_gone

  abbrev pub state_gone : Joined L O R
  state_gone = visited r.state objects visitors_gone r.state.kept

  -- what it learns is so
  pub record HasLearned : Type 0 where
    pub layout_is : (l o i : ℕ) → layout ≡ Some l → IsInside place o i → (object_at state_gone.phases o).layout ≡ l
    pub learned : is_served place ≡ true → layout ≢ None

  pub goes : (rows : AreSameRows r.state objects visitors_gone r.state.kept) → HasLearned
      → KnowsPass F.tag_of state_gone r.beside id (went v visitor_gone layout)
  goes rows learns =
      let before = known F declared table r id v at in
      let left = same_left r.state objects visitors_gone r.state.kept rows v in
      let on = same_on r.state objects visitors_gone r.state.kept rows in
      let swap = swap_stays r.state state_gone v left.swap before.phases.swap in
      let old = rows_stay r.state state_gone v on left.spans before.phases.rows in
      let trace = trace_stays r.state objects visitors_gone r.state.kept v left F.tag_of refl before.trace in
      own_after F.tag_of r.state objects visitors_gone r.state.kept r.beside id v before
      visitor_gone v.last v.found v.abandoned v.turned layout v.handed v.rows
      r.beside.row_seat (length-set r.state.phases.callers v.number visitor_gone) before.names
      (record {
        visitor = get_or-set_same r.state.phases.callers v.number visitor_gone fresh_visitor before.there;
        shapes = λ q. before.phases.shapes q ∙ sym (on.shapes q);
        layout = learns.layout_is;
        learned = learns.learned;
        swap = record { turned = swap.turned; layout_begun = swap.layout_begun; begun = swap.begun; next = swap.next };
        rows = record { old = old.old; granted = old.granted; swept = old.swept; spans = old.spans };
      })
      (record {
        kept = trace.kept;
        found = trace.found;
        over = trace.over;
        handed = trace.handed;
        unhanded = trace.unhanded;
        times = trace.times;
      })

-- words of objects and entries are none of generations or locks
pub record IsOfTables (i : ℕ) : Type 0 where
  pub generations : (q : ℕ) → q < 8 → generation_word q ≢ i
  pub even : (q : ℕ) → q < 8 → exits_word q 0 ≢ i
  pub odd : (q : ℕ) → q < 8 → exits_word q 1 ≢ i
  pub role : role_word ≢ i
  pub locks : (n : ℕ) → n < 256 → lock_word n ≢ i

pub of_entry : (p o : ℕ) → p < 8 → o < 16 → IsOfTables (local_word p o)
of_entry p o few small = record {
  generations = λ q lt e. omega arith;
  even = λ q lt e. omega arith;
  odd = λ q lt e. omega arith;
  role = λ e. omega arith;
  locks = λ n lt e. omega arith;
}

pub of_object : (o : ℕ) → o < 16 → IsOfTables (object_word o)
of_object o small = record {
  generations = λ q lt e. omega arith;
  even = λ q lt e. omega arith;
  odd = λ q lt e. omega arith;
  role = λ e. omega arith;
  locks = λ n lt e. omega arith;
}

pub generations_as_before : (words : List ℕ) (i new : ℕ) (g : Generations) (counts : Counts) → IsOfTables i → length g.procs ≤ 8
    → AreGenerations words g counts → AreGenerations (set words i new) g counts
generations_as_before words i new g counts apart few shown = record {
  procs = λ q k e.
      let lt : q < 8 = let there = slice_get_within g.procs q k e in omega (arith, there, few) in
      processor_stays words i new q k (apart.generations q lt) (apart.even q lt) (apart.odd q lt) (shown.procs q k e);
  role = get_or-set_other words i role_word new 0 apart.role ∙ shown.role;
  graces = shown.graces;
  begun = shown.begun;
}

pub locks_as_before : {P O R : Type 0} (procs : ℕ) (words : List ℕ) (homes : List (maybe.Option (Slot P O R))) (contents : Contents P) (i new : ℕ) (cells : List (Cell O R))
    → IsOfTables i → length cells ≤ 256 → EachPlace (IsCellShown procs words homes contents) cells
    → EachPlace (IsCellShown procs (set words i new) homes contents) cells
locks_as_before procs words homes contents i new cells apart few shown n x e =
    let there = slice_get_within cells n x e in let is = shown n x e in
    record {
      lock = get_or-set_other words i (lock_word n) new 0 (apart.locks n (omega (arith, there, few))) ∙ is.lock;
      slot = is.slot;
    }

-- an entry is written with its word
pub entry_written : (words : List ℕ) (objects : List Object) (o p : ℕ) (k : Object) (d : LocalEntry) (new : ℕ) → length words ≡ many_words → length objects ≤ 16
    → EachPlace (λ q (l : Object). length l.entries ≤ 8) objects → p < 8 → o < 16 → slice_get objects o ≡ Some k → new ≡ local_value d
    → AreObjects words objects → AreObjects (set words (local_word p o) new) (set objects o (put_entry k p d))
entry_written words objects o p k d new wide many long few small here is shown =
    EachPlace-set_else (IsObjectShown words) (IsObjectShown (set words (local_word p o) new)) objects o (put_entry k p d) shown
    (let old = shown o k here in
    record {
      word = get_or-set_other words (local_word p o) (object_word o) new 0 (λ e. omega (arith, small, few, e)) ∙ old.word;
      freed = get_or-set_other words (local_word p o) (freed_word o) new 0 (λ e. omega (arith, small, few, e)) ∙ old.freed;
      entries =
          EachPlace-set_else (λ q (x : LocalEntry). slice_index words (local_word q o) ≡ local_value x)
          (λ q (x : LocalEntry). slice_index (set words (local_word p o) new) (local_word q o) ≡ local_value x) k.entries p d old.entries
          (get_or-set_same words (local_word p o) new 0 (omega (arith, wide, few, small)) ∙ is)
          (λ q x not e was. get_or-set_other words (local_word p o) (local_word q o) new 0 (λ h. not (omega (arith, h))) ∙ was);
    })
    (λ q l not e old.
    let lt : q < 16 = let there = slice_get_within objects q l e in omega (arith, there, many) in
    record {
      word = get_or-set_other words (local_word p o) (object_word q) new 0 (λ h. omega (arith, small, few, lt, h)) ∙ old.word;
      freed = get_or-set_other words (local_word p o) (freed_word q) new 0 (λ h. omega (arith, small, few, lt, h)) ∙ old.freed;
      entries = λ m x f.
          let near : m < 8 = let there = slice_get_within l.entries m x f in let most = long q l e in omega (arith, there, most) in
          get_or-set_other words (local_word p o) (local_word m q) new 0 (λ h. not (omega (arith, small, few, lt, near, h))) ∙ old.entries m x f;
    })

-- the object's own word is written
pub object_written : (words : List ℕ) (objects : List Object) (o : ℕ) (k l : Object) (new : ℕ) → length words ≡ many_words → length objects ≤ 16
    → EachPlace (λ q (m : Object). length m.entries ≤ 8) objects → o < 16 → slice_get objects o ≡ Some k → l.entries ≡ k.entries → l.freed ≡ k.freed
    → new ≡ object_value l
    → AreObjects words objects → AreObjects (set words (object_word o) new) (set objects o l)
object_written words objects o k l new wide many long small here entries freed is shown =
    EachPlace-set_else (IsObjectShown words) (IsObjectShown (set words (object_word o) new)) objects o l shown
    (let old = shown o k here in
    record {
      word = get_or-set_same words (object_word o) new 0 (omega (arith, wide, small)) ∙ is;
      freed = get_or-set_other words (object_word o) (freed_word o) new 0 (λ e. omega (arith, small, e)) ∙ old.freed ∙ sym freed;
      entries = rw entries (λ m x f.
          let near : m < 8 = let there = slice_get_within k.entries m x f in let most = long o k here in omega (arith, there, most) in
          get_or-set_other words (object_word o) (local_word m o) new 0 (λ h. omega (arith, small, near, h)) ∙ old.entries m x f);
    })
    (λ q m not e old.
    let lt : q < 16 = let there = slice_get_within objects q m e in omega (arith, there, many) in
    record {
      word = get_or-set_other words (object_word o) (object_word q) new 0 (λ h. not (omega (arith, h))) ∙ old.word;
      freed = get_or-set_other words (object_word o) (freed_word q) new 0 (λ h. omega (arith, small, lt, h)) ∙ old.freed;
      entries = λ n x f.
          let near : n < 8 = let there = slice_get_within m.entries n x f in let most = long q m e in omega (arith, there, most) in
          get_or-set_other words (object_word o) (local_word n q) new 0 (λ h. omega (arith, small, near, lt, h)) ∙ old.entries n x f;
    })

pub rows_same : {L O R : Type 0} (s : Joined L O R) (o : ℕ) (k : Object) (visitors : List Visitor) (kept : List (Kept R)) → o < length s.phases.objects
    → IsSameRow (object_at s.phases o) k → AreSameRows s (set s.phases.objects o k) visitors kept
rows_same s o k visitors kept there same = record {
  many = length-set s.phases.objects o k;
  each = λ q. row_at q (ℕ_discrete q o);
} where
  row_at : (q : ℕ) → Dec (q ≡ o) → IsSameRow (object_at s.phases q) (get_or (set s.phases.objects o k) q fresh_object)
  row_at q (no not) = subst (IsSameRow (object_at s.phases q)) (sym (get_or-set_other s.phases.objects o q k fresh_object not)) (same_row (object_at s.phases q))
  row_at q (yes e) =
      subst (λ z. IsSameRow (object_at s.phases z) (get_or (set s.phases.objects o k) z fresh_object)) (sym e)
      (subst (IsSameRow (object_at s.phases o)) (sym (get_or-set_same s.phases.objects o k fresh_object there)) same)

-- what a pass that writes a word at the tables owes
module _ {S L P O R : Type 0} (F : Layouts S L P O R) (laws : AreLaws F) (declared : List L)
    (table : State (Slot P O R) (View P O R)) (r : Rule F declared table) (id : ℕ) (v : PassView P O R)
    (at : get_elem? table.views id ≡ some (Crew (v ∷ []))) where
  pub few_entries : EachPlace (λ o (k : Object). length k.entries ≤ 8) r.state.phases.objects
  few_entries o k here =
      let long = (r.sound.phases.in_scene.objects o k here).many_entries in
      let few = r.sound.phases.in_scene.in_course.limits.few_procs in omega (arith, long, few)

  pub written_shows : (objects : List Object) (x : Visitor) (kept : List (Kept R)) (i new : ℕ) (w : PassView P O R) → IsOfTables i → length objects ≡ length r.state.phases.objects
      → AreObjects (set table.words i new) objects
      → Shows (visited r.state objects (set r.state.phases.callers v.number x) kept) r.beside (with_pass table (set table.words i new) table.homes id w)
  written_shows objects x kept i new w apart many shown = record {
    many_words = length-set table.words i new ∙ r.shows.many_words;
    many_slots = r.shows.many_slots;
    few_objects = rw many r.shows.few_objects;
    few_entries = r.shows.few_entries;
    generations =
        generations_as_before table.words i new r.state.phases.turns r.beside.counts apart
        (let long = r.sound.phases.in_scene.in_course.many_procs in let few = r.sound.phases.in_scene.in_course.limits.few_procs in omega (arith, long, few))
        r.shows.generations;
    objects = shown;
    cells =
        locks_as_before (many_procs r.state) table.words table.homes r.beside.contents i new r.state.turns.cells apart
        (let long = r.sound.cells.locks.many.cells in let few = r.shows.few_objects in omega (arith, long, few))
        r.shows.cells;
  }
