-- Knocking at a mediator, and stepping out of it.
use Rattle.std.proofs.Common.{◌≡◌, ◌≢◌, ℕ, ◌+◌, ◌-◌, ◌%◌, ◌^◌, ◌<◌, ◌≤◌, Bool, true, false, cond, List, [], ◌∷◌, Option, Some, None, length, get_or, set, sym, refl, ap, ◌∙◌, subst, arith, le_refl}
use Rattle.std.proofs.lemmas.Option.{slice_get-get_or, same_Some}
use mathlib.Core.Option.{some}
use lib.ListN.{get_elem?}
use Rattle.atomic_table.specs.Table.{State, Step, Allows}
use Rattle.phase_core.specs.Effects.{at_place, knocked, counted_in, counted_out}
use Rattle.phase_core.specs.Event.{Event, Knock, StepOut}
use Rattle.phase_core.specs.Plain.{Object, Visitor, Phases}
use Rattle.phase_core.specs.Stages.{IsInside, is_counted, object_of}
use Rattle.phase_core.specs.State.{object_at, visitor_at, put_object, put_visitor, with_row, fresh_object}
use Rattle.phase_core.specs.declared.caller.Place.TheVariants.{Out, Tracked, Blocked}
use Rattle.phase_core.specs.declared.caller.Place.{Place}
use Rattle.phase_core.proofs.Ranges.{tracked_there, blocked_there, tracked_some, blocked_some}
use Rattle.phase_core.proofs.Reached.{turn_there}
use Rattle.k42_stamp.specs.Laws.{AreLaws}
use Rattle.k42_stamp.specs.Layouts.{Layouts}
use Rattle.k42_joined.specs.Effects.{effect}
use Rattle.k42_joined.specs.Event.{AtPhases}
use Rattle.k42_joined.specs.Plain.{Joined}
use Rattle.k42_joined.specs.Possible.{IsPossible}
use Rattle.k42_joined.specs.Swapping.{holds_none}
use Rattle.turn_core.specs.Plain as turns
use Rattle.k42_board.specs.Cells.{Slot}
use Rattle.k42_board.specs.Phases.{is_served}
use Rattle.k42_board.specs.Rule.{KnowsPass, Rule, Ruled}
use Rattle.k42_board.specs.Seen.{IsSeatOf}
use Rattle.k42_board.specs.Log.{took}
use Rattle.k42_board.specs.Views.{pass_in}
use Rattle.k42_board.specs.Steps.{Seated, Tells, TellsWith}
use Rattle.k42_board.specs.Tabling.{went, ObjectFound, word_object, MayKnock, knocked_view, MayStepOut, ended_view}
use Rattle.k42_board.specs.Values.{object_value, layout_in, incarnation_in, has_bit}
use Rattle.k42_board.specs.Words.{object_word}
use Rattle.k42_board.specs.declared.view.PassView.{PassView}
use Rattle.k42_board.specs.declared.view.StepName.TheVariants as steps
use Rattle.k42_board.specs.declared.view.View.{View}
use Rattle.k42_board.specs.declared.view.View.TheVariants.{Crew}
use Rattle.k42_board.proofs.AtTables.{visited, Steps, IsSameRow, same_visit, visits, goes, of_object, object_written, rows_same, few_entries, written_shows}
use Rattle.k42_board.proofs.Fields.{IsRead, object_fits, counted_more, counted_less}
use Rattle.k42_board.proofs.Looking.{place_is, object_shown, object_is_read, object_seen, word_object_is}
use Rattle.k42_board.proofs.Logged.{logged_moves}
use Rattle.k42_board.proofs.Moves.{Moves, Finds}
use Rattle.k42_board.proofs.OnePass.{with_pass, known}
use Rattle.k42_board.proofs.Retold.{retold, retold_allowed, retold_allowed_with}

module _ {S L P O R : Type 0} (F : Layouts S L P O R) (laws : AreLaws F) (declared : List L)
    (table : State (Slot P O R) (View P O R)) (r : Rule F declared table) (id : ℕ) (v : PassView P O R)
    (at : get_elem? table.views id ≡ some (Crew (v ∷ []))) where
  abbrev s : Phases
  s = r.state.phases

  abbrev c : ℕ
  c = v.number

  knows : KnowsPass F.tag_of r.state r.beside id v
  knows = known F declared table r id v at

  -- a pass that goes on in its call as it writes an object's word
  module _ (o : ℕ) (there : o < length s.objects) (e : Event) (k : Object) (place : Place) (read : List (ℕ × ℕ)) (layout : Option ℕ) where
    few : o < 16
    few = let lt = there in let few' = r.shows.few_objects in omega (arith, lt, few')

    abbrev x : Visitor
    x = record v.visitor { place = place; read = read }

    abbrev objects : List Object
    objects = set s.objects o k

    pub counts : (new : ℕ) → IsSameRow (object_at s o) k → k.freed ≡ (object_at s o).freed → k.entries ≡ (object_at s o).entries → new ≡ object_value k
        → IsPossible F declared r.state (AtPhases e)
        → visited r.state objects (set s.callers c x) r.state.kept ≡ effect r.state (AtPhases e)
        → ((l q i : ℕ) → layout ≡ Some l → IsInside place q i → (object_at s q).layout ≡ l)
        → (is_served place ≡ true → layout ≢ None)
        → Steps F declared r.state (AtPhases e) (with_pass table (set table.words (object_word o) new) table.homes id (went v x layout))
    counts new same freed entries value possible is told learned =
        let rows = rows_same r.state o k (set s.callers c x) r.state.kept there same in
        visits F laws declared table r id v at e objects r.state.kept x
        (same_visit F laws declared table r id v at e objects r.state.kept x possible is rows (λ d not. refl))
        (set table.words (object_word o) new) (went v x layout)
        (written_shows F laws declared table r id v at objects x r.state.kept (object_word o) new (went v x layout)
        (of_object o few) rows.many
        (object_written table.words s.objects o (object_at s o) k new r.shows.many_words r.shows.few_objects
        (few_entries F laws declared table r id v at) few (slice_get-get_or s.objects o fresh_object there) entries freed value r.shows.objects))
        (goes F laws declared table r id v at objects place read layout rows
        (record { layout_is = λ l q i t inside. (rows.each q).layout ∙ told l q i t inside; learned = learned }))

  module _ (o : ℕ) (may : MayKnock (length declared) o v) where
    abbrev found : ℕ
    found = get_or table.words (object_word o) 0

    abbrev k : Object
    k = object_at s o

    o_there : o < length s.objects
    o_there = let many = r.sound.cells.rows.objects in let lt = may.there in omega (arith, many, lt)

    is_read : IsRead k found
    is_read = object_is_read F laws declared table r id v at o o_there

    abbrev knocks : Bool → Visitor → ℕ → Joined L O R
    knocks b y n = record r.state { phases = put_object (put_visitor s c (knocked y o n b)) o (counted_in k); kept = r.state.kept }

    effect_is : effect r.state (AtPhases (Knock c o)) ≡ knocks (has_bit found 25) v.visitor (incarnation_in found)
    effect_is =
        ap (λ (z : Bool × Visitor × ℕ). knocks z.0 z.1 z.2) (λ j. (sym is_read.block j, knows.phases.visitor j, sym is_read.incarnation j))

    possible : IsPossible F declared r.state (AtPhases (Knock c o))
    possible = record {
      caller = knows.there;
      may = record { objects = o_there; core = rw (place_is F laws declared table r id v at) may.sent; beside = refl };
    }

    abbrev Goal : Bool → Type 0
    Goal b =
        Steps F declared r.state (AtPhases (Knock c o)) (with_pass table (set table.words (object_word o) ((found + 1) % 2 ^ 64)) table.homes id
        (went v (knocked v.visitor o (incarnation_in found) b) (cond b None (Some (layout_in found)))))

    value : (found + 1) % 2 ^ 64 ≡ object_value (counted_in k)
    value = counted_more k found (object_fits s r.sound.phases o o_there) (object_shown F laws declared table r id v at o o_there)

    same : IsSameRow k (counted_in k)
    same = record { shapes = refl; layout = refl; incarnation = refl; complete = refl; freed = le_refl k.freed }

    by_block : (b : Bool) → effect r.state (AtPhases (Knock c o)) ≡ knocks b v.visitor (incarnation_in found) → Goal b
    by_block true is =
        counts o o_there (Knock c o) (counted_in k) (Blocked o) v.visitor.read None ((found + 1) % 2 ^ 64) same refl refl value possible (sym is)
        (λ l q i told inside. absurd inside) (λ served none. absurd (cc))
    by_block false is =
        counts o o_there (Knock c o) (counted_in k) (Tracked o (incarnation_in found)) (with_row v.visitor.read o (incarnation_in found)) (Some (layout_in found))
        ((found + 1) % 2 ^ 64) same refl refl value possible (sym is)
        (λ l q i told inside. ap (λ z. (object_at s z).layout) (sym inside.0) ∙ sym is_read.layout ∙ same_Some (layout_in found) l told)
        (λ served none. cc)

    pub knocked_at : Steps F declared r.state (AtPhases (Knock c o)) (with_pass table (set table.words (object_word o) ((found + 1) % 2 ^ 64)) table.homes id (knocked_view o found v))
    knocked_at = by_block (has_bit found 25) effect_is

  -- a counted caller's object counts it
  counted_there : (place : Place) → (visitor_at s c).place ≡ place → is_counted place ≡ true
      → (object_of place < length s.objects) × (1 ≤ (object_at s (object_of place)).count)
  counted_there (Tracked o i) is e =
      let gen = turn_there s r.sound.phases c knows.there in
      (tracked_there s r.sound.phases c o i gen is, tracked_some s r.sound.phases c o i gen is)
  counted_there (Blocked o) is e =
      let gen = turn_there s r.sound.phases c knows.there in
      (blocked_there s r.sound.phases c o gen is, blocked_some s r.sound.phases c o gen is)
  counted_there place is e = absurd (cc)

  module _ (may : MayStepOut v) where
    abbrev here : ℕ
    here = object_of v.visitor.place

    abbrev seen : ℕ
    seen = get_or table.words (object_word here) 0

    counted : (here < length s.objects) × (1 ≤ (object_at s here).count)
    counted = counted_there v.visitor.place (place_is F laws declared table r id v at) may.counted

    pub steps_out : Steps F declared r.state (AtPhases (StepOut c)) (with_pass table (set table.words (object_word here) ((seen + (2 ^ 64 - 1)) % 2 ^ 64)) table.homes id (ended_view v))
    steps_out =
        counts here counted.0 (StepOut c) (counted_out (object_at s here)) Out v.visitor.read None ((seen + (2 ^ 64 - 1)) % 2 ^ 64)
        (record { shapes = refl; layout = refl; incarnation = refl; complete = refl; freed = le_refl (object_at s here).freed }) refl refl
        (counted_less (object_at s here) seen (object_fits s r.sound.phases here counted.0) counted.1 (object_shown F laws declared table r id v at here counted.0))
        (record {
          caller = knows.there;
          may = record {
            objects = tt;
            core = rw (place_is F laws declared table r id v at) may.counted;
            beside = ap (λ (z : turns.Caller O R). holds_none z.held) knows.cells.taker ∙ may.free;
          };
        })
        (ap (λ (y : Visitor). visited r.state (set s.objects (object_of y.place) (counted_out (object_at s (object_of y.place)))) (set s.callers c (at_place y Out)) r.state.kept)
        (sym knows.phases.visitor))
        (λ l q i told inside. absurd inside) (λ served none. absurd (cc))

knock_goes : {S L P O R : Type 0} (F : Layouts S L P O R) → AreLaws F → (declared : List L) (id o : ℕ) (v : PassView P O R) → MayKnock (length declared) o v
    → Moves F declared (AtPhases (Knock v.number o)) (object_word o) (λ word. (word + 1) % 2 ^ 64) (knocked_view o) id v
knock_goes F laws declared id o v may = record { from = λ table r at. knocked_at F laws declared table r id v at o may }

pub knock_moves : {S L P O R : Type 0} (F : Layouts S L P O R) → AreLaws F → (declared : List L) (id o : ℕ) (v : PassView P O R) → MayKnock (length declared) o v
    → Moves F declared (AtPhases (Knock v.number o)) (object_word o) (λ word. (word + 1) % 2 ^ 64) (λ found x. took steps.Knock (object_word o) found (knocked_view o found x)) id v
knock_moves F laws declared id o v may = logged_moves steps.Knock (λ n. n) (λ found q before is. is) (knock_goes F laws declared id o v may)

step_out_goes : {S L P O R : Type 0} (F : Layouts S L P O R) → AreLaws F → (declared : List L) (id : ℕ) (v : PassView P O R) → MayStepOut v
    → Moves F declared (AtPhases (StepOut v.number)) (object_word (object_of v.visitor.place)) (λ word. (word + (2 ^ 64 - 1)) % 2 ^ 64) (λ found. ended_view) id v
step_out_goes F laws declared id v may = record { from = λ table r at. steps_out F laws declared table r id v at may }

pub step_out_moves : {S L P O R : Type 0} (F : Layouts S L P O R) → AreLaws F → (declared : List L) (id : ℕ) (v : PassView P O R) → MayStepOut v
    → Moves F declared (AtPhases (StepOut v.number)) (object_word (object_of v.visitor.place)) (λ word. (word + (2 ^ 64 - 1)) % 2 ^ 64)
    (λ found x. took steps.StepOut (object_word (object_of x.visitor.place)) found (ended_view x)) id v
step_out_moves F laws declared id v may = record { from = (logged_moves steps.StepOut (λ n. n) (λ found q before is. is) (step_out_goes F laws declared id v may)).from }

-- what is found of an object
pub object_finds : {S L P O R : Type 0} (F : Layouts S L P O R) → AreLaws F → (declared : List L) (id o : ℕ) (v : PassView P O R) → o < length declared
    → Finds F declared (object_word o) (ObjectFound o) id v
object_finds F laws declared id o v lt table r at =
    object_seen F laws declared table r id v at o (let many = r.sound.cells.rows.objects in omega (arith, many, lt))

-- as the plays tell them, at the words that the steps name

module _ {S L P O R : Type 0} (F : Layouts S L P O R) (laws : AreLaws F) (declared : List L) (id o : ℕ)
    (me : Seated P O R) (is : IsSeatOf me (pass_in me.0)) (may : MayKnock (length declared) o (pass_in me.0)) (word : ℕ) (there : word ≡ object_word o) where
  abbrev knock_at : ℕ × ℕ → ℕ → PassView P O R → PassView P O R
  knock_at at found x = took steps.Knock at.0 found (knocked_view at.1 found x)

  knock_same : (found : ℕ) → knock_at (object_word o, o) found (pass_in me.0) ≡ knock_at (word, word_object word) found (pass_in me.0)
  knock_same found = ap (λ at. knock_at at found (pass_in me.0)) (λ j. (sym there j, sym (word_object_is o word there) j))

  pub knock_allowed : {callers : ℕ} (slots : ℕ) (step : Step (Slot P O R))
      → Allows (Ruled F declared callers) slots id me word (λ n. (n + 1) % 2 ^ 64) (TellsWith (knock_at (word, word_object word)) (ObjectFound (word_object word)) step me)
  knock_allowed slots step =
      retold_allowed_with (knock_at (object_word o, o)) (knock_at (word, word_object word)) knock_same (knock_moves F laws declared id o (pass_in me.0) may) (ObjectFound (word_object word))
      (subst (λ q. Finds F declared (object_word o) (ObjectFound q) id (pass_in me.0)) (sym (word_object_is o word there)) (object_finds F laws declared id o (pass_in me.0) may.there)) me is word there slots step

  pub knock_told : (step : Step (Slot P O R)) (found : ℕ) (after : Seated P O R) → TellsWith (knock_at (word, word_object word)) (ObjectFound (word_object word)) step me found after
      → Tells (knock_at (object_word o, o)) step me found after
  knock_told step found after told = retold (knock_at (object_word o, o)) (knock_at (word, word_object word)) knock_same me after is step found told.0

module _ {S L P O R : Type 0} (F : Layouts S L P O R) (laws : AreLaws F) (declared : List L) (id : ℕ)
    (me : Seated P O R) (is : IsSeatOf me (pass_in me.0)) (may : MayStepOut (pass_in me.0))
    (word o : ℕ) (at : word ≡ object_word o) (same : object_of (pass_in me.0).visitor.place ≡ o) where
  step_out_there : word ≡ object_word (object_of (pass_in me.0).visitor.place)
  step_out_there = at ∙ ap object_word (sym same)

  abbrev step_out_row : ℕ → PassView P O R → PassView P O R
  step_out_row found x = took steps.StepOut (object_word (object_of x.visitor.place)) found (ended_view x)

  abbrev step_out_play : ℕ → PassView P O R → PassView P O R
  step_out_play found x = took steps.StepOut word found (ended_view x)

  step_out_same : (found : ℕ) → step_out_row found (pass_in me.0) ≡ step_out_play found (pass_in me.0)
  step_out_same found = ap (λ i. took steps.StepOut i found (ended_view (pass_in me.0))) (sym step_out_there)

  pub step_out_allowed : {callers : ℕ} (slots : ℕ) (step : Step (Slot P O R))
      → Allows (Ruled F declared callers) slots id me word (λ n. (n + (2 ^ 64 - 1)) % 2 ^ 64) (Tells step_out_play step me)
  step_out_allowed slots step = retold_allowed step_out_row step_out_play step_out_same (step_out_moves F laws declared id (pass_in me.0) may) me is word step_out_there slots step

  pub step_out_told : (step : Step (Slot P O R)) (found : ℕ) (after : Seated P O R) → Tells step_out_play step me found after → Tells step_out_row step me found after
  step_out_told step found after told = retold step_out_row step_out_play step_out_same me after is step found told
