-- Beginning a swap.
use Rattle.std.proofs.Common.{length-set, get_or-set_same, get_or-set_other, ◌≡◌, ℕ, ◌<◌, Bool, true, false, cond, List, [], ◌∷◌, Some, None, length, get_or, set, sym, refl, ap, ◌∙◌, subst, arith, le_refl}
use Rattle.std.proofs.lemmas.List.{set-get_or}
use Rattle.std.proofs.lemmas.Option.{slice_get-get_or, same_Some}
use mathlib.Core.Option.{some}
use lib.ListN.{get_elem?}
use Rattle.atomic_table.specs.Table.{State, Step, Allows}
use Rattle.phase_core.specs.Effects.{at_stage, begun_as, is_over}
use Rattle.phase_core.specs.Event.{Begin}
use Rattle.phase_core.specs.Plain.{Object, Visitor, Phases}
use Rattle.phase_core.specs.Stages.{IsInside, is_idle, named_by, object_named, is_moved}
use Rattle.phase_core.specs.State.{object_at, visitor_at, fresh_object}
use Rattle.k42_stamp.specs.Laws.{AreLaws}
use Rattle.k42_stamp.specs.Layouts.{Layouts}
use Rattle.k42_joined.specs.Effects.{effect}
use Rattle.k42_joined.specs.Event.{AtPhases}
use Rattle.k42_joined.specs.Plain.{Joined}
use Rattle.k42_joined.specs.Possible.{IsPossible}
use Rattle.k42_board.specs.Cells.{Slot}
use Rattle.k42_board.specs.Phases.{is_served, KnowsSwap, KnowsRows}
use Rattle.k42_board.specs.Rule.{KnowsPass, Rule, Ruled}
use Rattle.k42_board.specs.Seen.{IsSeatOf}
use Rattle.k42_board.specs.Log.{took}
use Rattle.k42_board.specs.Views.{pass_in, live_at}
use Rattle.k42_board.specs.Steps.{Seated, Tells, TellsWith}
use Rattle.k42_board.specs.Tabling.{ObjectFound, word_object, MayBegin, is_over_in, stage_begun, begun_view}
use Rattle.k42_board.specs.Values.{has_bit, answer_in}
use Rattle.k42_board.specs.Words.{object_word}
use Rattle.k42_board.specs.declared.view.PassView.{PassView}
use Rattle.k42_board.specs.declared.view.StepName.TheVariants as steps
use Rattle.k42_board.specs.declared.view.View.{View}
use Rattle.k42_board.specs.declared.view.View.TheVariants.{Crew}
use Rattle.k42_board.proofs.AtTables.{visited, Steps, AreSameRows, same_on, same_left, same_visit, visits, rows_stay, own_after, rows_told, of_object, object_written, rows_same, few_entries, written_shows}
use Rattle.k42_board.proofs.Fields.{IsRead, object_fits, swap_set}
use Rattle.k42_board.proofs.Looking.{object_shown, object_is_read, word_object_is}
use Rattle.k42_board.proofs.Knocking.{object_finds}
use Rattle.std.specs.Int.RustNames.{bit_or}
use Rattle.k42_joined.specs.Plain.{Kept}
use Rattle.k42_joined.specs.State.{kept_of, nothing_kept}
use Rattle.k42_joined.specs.Found.{answer_found}
use Rattle.k42_joined.specs.Answers.{is_turned}
use Rattle.gen_core.specs.Events.{is_free}
use Rattle.phase_core.specs.declared.caller.SwapAt.{SwapAt}
use Rattle.phase_core.specs.declared.caller.SwapAt.TheVariants.{Idle}
use Rattle.k42_board.proofs.Logged.{logged_moves}
use Rattle.k42_board.proofs.Moves.{Moves, Finds}
use Rattle.k42_board.proofs.OnePass.{with_pass, known}
use Rattle.k42_board.proofs.Retold.{retold, retold_allowed_with}

idle_is : (swap : SwapAt) → is_idle swap ≡ true → swap ≡ Idle
idle_is Idle e = refl
idle_is swap e = absurd (cc)

begun_names : (o q : ℕ) (over : Bool) → named_by (begun_as o over) ≡ Some q → o ≡ q
begun_names o q true e = same_Some o q e
begun_names o q false e = same_Some o q e

begun_unmoved : (o : ℕ) (over : Bool) → is_moved (begun_as o over) ≡ false
begun_unmoved o true = refl
begun_unmoved o false = refl

begun_unturned : (o : ℕ) (over : Bool) (l : Object) → is_turned (begun_as o over) l ≡ false
begun_unturned o true l = refl
begun_unturned o false l = refl

module _ {S L P O R : Type 0} (F : Layouts S L P O R) (laws : AreLaws F) (declared : List L)
    (table : State (Slot P O R) (View P O R)) (r : Rule F declared table) (id : ℕ) (v : PassView P O R)
    (at : get_elem? table.views id ≡ some (Crew (v ∷ []))) (o : ℕ) (may : MayBegin (length declared) o v) where
  abbrev s : Phases
  s = r.state.phases

  abbrev c : ℕ
  c = v.number

  abbrev found : ℕ
  found = get_or table.words (object_word o) 0

  abbrev k : Object
  k = object_at s o

  abbrev k' : Object
  k' = record k { swap = true }

  abbrev x : Visitor
  x = stage_begun (live_at v o) o found v.visitor

  abbrev kept' : Kept R
  kept' = record (kept_of r.state c) { begun = Some o; found = answer_found k }

  abbrev objects : List Object
  objects = set s.objects o k'

  abbrev kept : List (Kept R)
  kept = set r.state.kept c kept'

  abbrev after : Joined L O R
  after = visited r.state objects (set s.callers c x) kept

  knows : KnowsPass F.tag_of r.state r.beside id v
  knows = known F declared table r id v at

  there : o < length s.objects
  there = let many = r.sound.cells.rows.objects in let lt = may.there in omega (arith, many, lt)

  few : o < 16
  few = let lt = there in let few' = r.shows.few_objects in omega (arith, lt, few')

  is_read : IsRead k found
  is_read = object_is_read F laws declared table r id v at o there

  swap_is : v.visitor.swap ≡ Idle
  swap_is = idle_is v.visitor.swap may.no_swap

  live_is : live_at v o ≡ length k.shapes
  live_is = ap length (knows.phases.shapes o)

  over_is : is_over_in (live_at v o) found ≡ is_over k
  over_is = rw (live_is, is_read.layout, is_read.incarnation) refl

  answer_is : answer_in {R = R} (live_at v o) found ≡ answer_found k
  answer_is = rw (live_is, is_read.layout, is_read.incarnation, is_read.swap, is_read.complete) refl

  abbrev phases_if : Bool → Visitor → Bool → Phases
  phases_if b y over = cond b s (record s { objects = objects; callers = set s.callers c (at_stage y (begun_as o over)) })

  with_swap : k.swap ≡ true → objects ≡ s.objects
  with_swap e = ap (λ b. set s.objects o (record k { swap = b })) (sym e) ∙ set-get_or s.objects o fresh_object

  by_swap : (b : Bool) → k.swap ≡ b → phases_if b v.visitor (is_over_in (live_at v o) found) ≡ record s { objects = objects; callers = set s.callers c (cond b v.visitor (at_stage v.visitor (begun_as o (is_over_in (live_at v o) found)))) }
  by_swap true e =
      ap (λ (z : List Object × List Visitor). record s { objects = z.0; callers = z.1 })
      (λ j. (sym (with_swap e) j, (sym (set-get_or s.callers c _) ∙ ap (set s.callers c) knows.phases.visitor) j))
  by_swap false e = refl

  phases_is : phases_if k.swap (visitor_at s c) (is_over k) ≡ record s { objects = objects; callers = set s.callers c x }
  phases_is =
      ap (λ (z : Visitor × Bool). phases_if k.swap z.0 z.1) (λ j. (knows.phases.visitor j, sym over_is j))
      ∙ by_swap k.swap refl
      ∙ ap (λ b. record s { objects = objects; callers = set s.callers c (cond b v.visitor (at_stage v.visitor (begun_as o (is_over_in (live_at v o) found)))) }) (sym is_read.swap)

  effect_is : after ≡ effect r.state (AtPhases (Begin c o))
  effect_is = ap (λ (z : Phases). record r.state { phases = z; kept = kept }) (sym phases_is)

  possible : IsPossible F declared r.state (AtPhases (Begin c o))
  possible = record {
    caller = knows.there;
    may = record {
      objects = there;
      core = rw (ap is_free knows.generations.turn ∙ may.free, ap (λ (z : Visitor). is_idle z.swap) knows.phases.visitor ∙ may.no_swap) refl;
      beside = refl;
    };
  }

  rows : AreSameRows r.state objects (set s.callers c x) kept
  rows = rows_same r.state o k' (set s.callers c x) kept there (record { shapes = refl; layout = refl; incarnation = refl; complete = refl; freed = le_refl k.freed })

  c_kept : c < length r.state.kept
  c_kept = let many = r.sound.cells.locks.many.kept in let lt = knows.there in omega (arith, many, lt)

  -- what becomes of its place and its swap
  pub record IsBegun (y : Visitor) : Type 0 where
    pub place : y.place ≡ v.visitor.place
    pub noted : y.noted ≡ v.visitor.noted
    pub freeing : y.freeing ≡ v.visitor.freeing
    pub named : (q : ℕ) → named_by y.swap ≡ Some q → o ≡ q
    pub unmoved : is_moved y.swap ≡ false
    pub unturned : (l : Object) → is_turned y.swap l ≡ false

  begun_is : (b : Bool) → IsBegun (cond b v.visitor (at_stage v.visitor (begun_as o (is_over_in (live_at v o) found))))
  begun_is true = record {
    place = refl;
    noted = refl;
    freeing = refl;
    named = λ q named. absurd (let none : named_by v.visitor.swap ≡ None = ap named_by swap_is in cc);
    unmoved = ap is_moved swap_is;
    unturned = λ l. ap (λ z. is_turned z l) swap_is;
  }
  begun_is false = record {
    place = refl;
    noted = refl;
    freeing = refl;
    named = λ q named. begun_names o q (is_over_in (live_at v o) found) named;
    unmoved = begun_unmoved o (is_over_in (live_at v o) found);
    unturned = λ l. begun_unturned o (is_over_in (live_at v o) found) l;
  }

  x_is : IsBegun x
  x_is = begun_is (has_bit found 24)

  -- it had turned nothing over
  unturned_before : v.turned ≡ false
  unturned_before = knows.phases.swap.turned ∙ ap (λ z. is_turned z (object_at s (object_named v.visitor.swap))) swap_is

  knows_swap : KnowsSwap after.phases (begun_view o found v)
  knows_swap = record {
    turned = unturned_before ∙ sym (x_is.unturned (object_at after.phases (object_named x.swap)));
    layout_begun = λ q named not. is_read.layout ∙ ap (λ z. (object_at s z).layout) (x_is.named q named) ∙ sym (rows.each q).layout;
    begun = λ q named not. is_read.incarnation ∙ ap (λ z. (object_at s z).incarnation) (x_is.named q named) ∙ sym (rows.each q).incarnation;
    next = λ q named is. absurd (let not = unturned_before in cc);
  }

  knows_rows : KnowsRows after.phases (begun_view o found v)
  knows_rows =
      let old = rows_stay r.state after v (same_on r.state objects (set s.callers c x) kept rows)
      (same_left r.state objects (set s.callers c x) kept rows v).spans knows.phases.rows in
      rows_told F.tag_of r.state objects (set s.callers c x) kept r.beside id v knows
      x (Some (record { object = o; word = found })) (answer_in (live_at v o) found) v.abandoned v.turned v.layout v.handed v.rows
      after.phases x_is.noted x_is.freeing refl old.old old

  pass_after : KnowsPass F.tag_of after r.beside id (begun_view o found v)
  pass_after =
      own_after F.tag_of r.state objects (set s.callers c x) kept r.beside id v knows
      x (Some (record { object = o; word = found })) (answer_in (live_at v o) found) v.abandoned v.turned v.layout v.handed v.rows
      r.beside.row_seat (length-set s.callers c x) knows.names
      (record {
        visitor = get_or-set_same s.callers c x _ knows.there;
        shapes = λ q. knows.phases.shapes q ∙ sym (rows.each q).shapes;
        layout = λ l q i e inside. (rows.each q).layout ∙ knows.phases.layout l q i e (subst (λ z. IsInside z q i) x_is.place inside);
        learned = λ served. knows.phases.learned (subst (λ z. is_served z ≡ true) x_is.place served);
        swap = knows_swap;
        rows = knows_rows;
      })
      (record {
        kept =
            get_or-set_same r.state.kept c kept' nothing_kept c_kept
            ∙ (λ j. record { begun = Some o; found = sym answer_is j; abandoned = (ap (λ (z : Kept R). z.abandoned) knows.trace.kept) j });
        found = λ answer e. e;
        over = λ answer e tells. is_read.incarnation ∙ sym (rows.each o).incarnation;
        handed = λ tag e. absurd (let old = (knows.trace.handed tag e).0 in let not : is_moved v.visitor.swap ≡ false = ap is_moved swap_is in cc);
        unhanded = λ e is. absurd (let not = x_is.unmoved in cc);
        times = knows.trace.times;
      })

  pub begins : Steps F declared r.state (AtPhases (Begin c o)) (with_pass table (set table.words (object_word o) (bit_or found 16777216)) table.homes id (begun_view o found v))
  begins =
      visits F laws declared table r id v at (Begin c o) objects kept x
      (same_visit F laws declared table r id v at (Begin c o) objects kept x possible effect_is rows (λ d not. get_or-set_other r.state.kept c d kept' nothing_kept not))
      (set table.words (object_word o) (bit_or found 16777216)) (begun_view o found v)
      (written_shows F laws declared table r id v at objects x kept (object_word o) (bit_or found 16777216) (begun_view o found v)
      (of_object o few) rows.many
      (object_written table.words s.objects o k k' (bit_or found 16777216) r.shows.many_words r.shows.few_objects
      (few_entries F laws declared table r id v at) few (slice_get-get_or s.objects o fresh_object there) refl refl
      (swap_set k found (object_fits s r.sound.phases o there) (object_shown F laws declared table r id v at o there)) r.shows.objects))
      pass_after

begin_goes : {S L P O R : Type 0} (F : Layouts S L P O R) → AreLaws F → (declared : List L) (id o : ℕ) (v : PassView P O R) → MayBegin (length declared) o v
    → Moves F declared (AtPhases (Begin v.number o)) (object_word o) (λ word. bit_or word 16777216) (begun_view o) id v
begin_goes F laws declared id o v may = record { from = λ table r at. begins F laws declared table r id v at o may }

pub begin_moves : {S L P O R : Type 0} (F : Layouts S L P O R) → AreLaws F → (declared : List L) (id o : ℕ) (v : PassView P O R) → MayBegin (length declared) o v
    → Moves F declared (AtPhases (Begin v.number o)) (object_word o) (λ word. bit_or word 16777216) (λ found x. took steps.Begin (object_word o) found (begun_view o found x)) id v
begin_moves F laws declared id o v may = logged_moves steps.Begin (λ n. n) (λ found q before is. is) (begin_goes F laws declared id o v may)

-- as the play tells it, at the word that the step names
module _ {S L P O R : Type 0} (F : Layouts S L P O R) (laws : AreLaws F) (declared : List L) (id o : ℕ)
    (me : Seated P O R) (is : IsSeatOf me (pass_in me.0)) (may : MayBegin (length declared) o (pass_in me.0)) (word : ℕ) (there : word ≡ object_word o) where
  abbrev begin_at : ℕ × ℕ → ℕ → PassView P O R → PassView P O R
  begin_at at found x = took steps.Begin at.0 found (begun_view at.1 found x)

  begin_same : (found : ℕ) → begin_at (object_word o, o) found (pass_in me.0) ≡ begin_at (word, word_object word) found (pass_in me.0)
  begin_same found = ap (λ at. begin_at at found (pass_in me.0)) (λ j. (sym there j, sym (word_object_is o word there) j))

  pub begin_allowed : {callers : ℕ} (slots : ℕ) (step : Step (Slot P O R))
      → Allows (Ruled F declared callers) slots id me word (λ n. bit_or n 16777216) (TellsWith (begin_at (word, word_object word)) (ObjectFound (word_object word)) step me)
  begin_allowed slots step =
      retold_allowed_with (begin_at (object_word o, o)) (begin_at (word, word_object word)) begin_same (begin_moves F laws declared id o (pass_in me.0) may) (ObjectFound (word_object word))
      (subst (λ q. Finds F declared (object_word o) (ObjectFound q) id (pass_in me.0)) (sym (word_object_is o word there)) (object_finds F laws declared id o (pass_in me.0) may.there)) me is word there slots step

  pub begin_told : (step : Step (Slot P O R)) (found : ℕ) (after : Seated P O R) → TellsWith (begin_at (word, word_object word)) (ObjectFound (word_object word)) step me found after
      → Tells (begin_at (object_word o, o)) step me found after
  begin_told step found after told = retold (begin_at (object_word o, o)) (begin_at (word, word_object word)) begin_same me after is step found told.0
