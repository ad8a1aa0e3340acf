-- Steps that only read a word: a look-up, the root's, and the end of a call.
use Rattle.std.proofs.Common.{◌≡◌, ◌≢◌, ℕ, ◌<◌, ◌≤◌, Bool, true, false, cond, eqb, List, [], ◌∷◌, Option, Some, None, length, get_or, set, sym, refl, ap, ◌∙◌, subst, arith}
use Rattle.std.specs.Option.{is_some}
use Rattle.std.proofs.lemmas.Bool.{eqb-true}
use Rattle.std.proofs.lemmas.List.{set-get_or}
use Rattle.std.proofs.lemmas.Option.{slice_get-get_or, same_Some}
use mathlib.Core.Option.{some}
use lib.ListN.{get_elem?}
use Rattle.k42_shapes.specs.Shapes.{IsKnownTag}
use Rattle.atomic_table.specs.Table.{State, Step, Allows}
use Rattle.gen_core.specs.Plain.{Caller}
use Rattle.gen_core.specs.State.{caller_at}
use Rattle.gen_core.proofs.Ranges.{home_there}
use Rattle.phase_core.specs.Callers.{IsAtPlace}
use Rattle.phase_core.specs.Effects.{root_of, at_place, looked_up, place_found}
use Rattle.phase_core.specs.Event.{Event, RootLoad, LookUp, EndCall}
use Rattle.phase_core.specs.Plain.{Object, Visitor, Phases}
use Rattle.phase_core.specs.Stages.{IsInside, is_missed, is_out, object_of, row_of}
use Rattle.phase_core.specs.State.{object_at, visitor_at, entry_at, fresh_object, fresh_visitor, empty_entry, with_row}
use Rattle.phase_core.specs.declared.caller.Place.{Place}
use Rattle.phase_core.specs.declared.caller.Place.TheVariants.{Out, Missed, Direct, AtMediator}
use Rattle.phase_core.specs.declared.object.LocalEntry.{LocalEntry}
use Rattle.phase_core.proofs.InSound.{object_known, visitor_known, inside_is_present}
use Rattle.phase_core.proofs.Ranges.{turns_sound, entry_there}
use Rattle.phase_core.proofs.Reached.{turn_there}
use Rattle.turn_core.specs.Plain as turns
use Rattle.k42_stamp.specs.Laws.{AreLaws}
use Rattle.k42_stamp.specs.Layouts.{Layouts}
use Rattle.k42_joined.specs.Effects.{effect}
use Rattle.k42_joined.specs.Event.{AtPhases}
use Rattle.k42_joined.specs.Plain.{Joined}
use Rattle.k42_joined.specs.Possible.{IsPossible}
use Rattle.k42_joined.specs.State.{held}
use Rattle.k42_joined.specs.Swapping.{holds_none}
use Rattle.k42_board.specs.Cells.{Slot}
use Rattle.k42_board.specs.Phases.{is_served}
use Rattle.k42_board.specs.Rule.{KnowsPass, Rule, Ruled}
use Rattle.k42_board.specs.Seen.{IsSeatOf}
use Rattle.k42_board.specs.Log.{took}
use Rattle.k42_board.specs.Views.{pass_in}
use Rattle.k42_board.specs.Steps.{Seated, Tells, TellsWith}
use Rattle.k42_board.specs.Tabling.{went, EntryFound, ObjectFound, RootFound, entry_in, entry_object, layout_told, MayLookUp, looked_up_view, MayLoadRoot, rooted_view, MayEndCall, ended_view, word_object}
use Rattle.k42_board.specs.Values.{layout_in, local_value, object_value}
use Rattle.k42_board.specs.Words.{object_word, local_word}
use Rattle.k42_board.specs.declared.view.PassView.{PassView}
use Rattle.k42_board.specs.declared.view.StepName.TheVariants as steps
use Rattle.k42_board.specs.declared.view.View.{View}
use Rattle.k42_board.specs.declared.view.View.TheVariants.{Crew}
use Rattle.k42_board.proofs.Fields.{IsEntryOf, IsRead, object_fits, object_read, entry_known, entry_read}
use Rattle.k42_board.proofs.Logged.{logged_moves}
use Rattle.k42_board.proofs.Moves.{Moves, Finds}
use Rattle.k42_board.proofs.OnePass.{with_pass, known}
use Rattle.k42_board.proofs.Retold.{retold, retold_allowed, retold_allowed_with}
use Rattle.k42_board.proofs.AtTables.{visited, Steps, same_row, AreSameRows, same_visit, visits, goes}

pub missed_is : (place : Place) (o : ℕ) → is_missed place o ≡ true → (i : ℕ) × (place ≡ Missed o i)
missed_is (Missed q i) o e = (i, ap (λ z. Missed z i) (eqb-true q o e))
missed_is place o e = absurd (cc)

inside_found : (tag o i q j : ℕ) → IsInside (place_found tag o i) q j → o ≡ q
inside_found tag o i q j inside = by_tests (eqb tag 0) (eqb tag 1) inside where
  by_tests : (a b : Bool) → IsInside (cond a (Missed o i) (cond b (Direct o i) (AtMediator o))) q j → o ≡ q
  by_tests true b inside = inside.0
  by_tests false true inside = inside.0
  by_tests false false inside = absurd inside

served_told : (tag o i layout : ℕ) → is_served (place_found tag o i) ≡ true → cond (eqb tag 1) (Some layout) None ≢ None
served_told tag o i layout served = by_tests (eqb tag 0) (eqb tag 1) served where
  by_tests : (a b : Bool) → is_served (cond a (Missed o i) (cond b (Direct o i) (AtMediator o))) ≡ true → cond b (Some layout) None ≢ None
  by_tests true b served none = absurd (cc)
  by_tests false true served none = cc
  by_tests false false served none = absurd (cc)

-- a pass that goes on as it reads a word
module _ {S L P O R : Type 0} (F : Layouts S L P O R) (laws : AreLaws F) (declared : List L)
    (table : State (Slot P O R) (View P O R)) (r : Rule F declared table) (id : ℕ) (v : PassView P O R)
    (at : get_elem? table.views id ≡ some (Crew (v ∷ [])))
    (e : Event) (place : Place) (read : List (ℕ × ℕ)) (layout : Option ℕ) where
  abbrev objects : List Object
  objects = r.state.phases.objects

  abbrev pub gone : Visitor
  gone = record v.visitor { place = place; read = read }

  abbrev pub after_reading : Joined L O R
  after_reading = visited r.state objects (set r.state.phases.callers v.number gone) r.state.kept

  same_rows : AreSameRows r.state objects (set r.state.phases.callers v.number gone) r.state.kept
  same_rows = record { many = refl; each = λ o. same_row (object_at r.state.phases o) }

  pub reads : IsPossible F declared r.state (AtPhases e) → after_reading ≡ effect r.state (AtPhases e)
      → ((l o i : ℕ) → layout ≡ Some l → IsInside place o i → (object_at r.state.phases o).layout ≡ l)
      → (is_served place ≡ true → layout ≢ None) → (i : ℕ)
      → Steps F declared r.state (AtPhases e) (with_pass table (set table.words i (get_or table.words i 0)) table.homes id (went v gone layout))
  reads possible is told learned i =
      subst (λ words. Steps F declared r.state (AtPhases e) (with_pass table words table.homes id (went v gone layout)))
      (sym (set-get_or table.words i 0))
      (visits F laws declared table r id v at e objects r.state.kept gone
      (same_visit F laws declared table r id v at e objects r.state.kept gone possible is same_rows (λ d not. refl))
      table.words (went v gone layout)
      (record {
        many_words = r.shows.many_words;
        many_slots = r.shows.many_slots;
        few_objects = r.shows.few_objects;
        few_entries = r.shows.few_entries;
        generations = r.shows.generations;
        objects = r.shows.objects;
        cells = r.shows.cells;
      })
      (goes F laws declared table r id v at objects place read layout same_rows (record { layout_is = told; learned = learned })))

module _ {S L P O R : Type 0} (F : Layouts S L P O R) (laws : AreLaws F) (declared : List L)
    (table : State (Slot P O R) (View P O R)) (r : Rule F declared table) (id : ℕ) (v : PassView P O R)
    (at : get_elem? table.views id ≡ some (Crew (v ∷ []))) where
  abbrev s : Phases
  s = r.state.phases

  knows : KnowsPass F.tag_of r.state r.beside id v
  knows = known F declared table r id v at

  pub place_is : (visitor_at s v.number).place ≡ v.visitor.place
  place_is = ap (λ (z : Visitor). z.place) knows.phases.visitor

  pub at_its_place : IsAtPlace r.sound.phases.scene (caller_at s.turns v.number) (visitor_at s v.number).read v.visitor.place
  at_its_place =
      subst (IsAtPlace r.sound.phases.scene (caller_at s.turns v.number) (visitor_at s v.number).read) place_is
      (visitor_known s r.sound.phases v.number knows.there).at_place

  pub missed_there : (o : ℕ) → is_missed v.visitor.place o ≡ true → o < length s.objects
  missed_there o missed =
      let is = missed_is v.visitor.place o missed in
      let here : IsAtPlace r.sound.phases.scene (caller_at s.turns v.number) (visitor_at s v.number).read (Missed o is.0) =
      subst (IsAtPlace r.sound.phases.scene (caller_at s.turns v.number) (visitor_at s v.number).read) is.1 at_its_place in
      let lt = here.0 in let many = r.sound.phases.in_scene.many_objects in omega (arith, lt, many)

  -- the word of an object that is there
  pub object_shown : (o : ℕ) → o < length s.objects → get_or table.words (object_word o) 0 ≡ object_value (object_at s o)
  object_shown o there = (r.shows.objects o (object_at s o) (slice_get-get_or s.objects o fresh_object there)).word

  pub object_is_read : (o : ℕ) → o < length s.objects → IsRead (object_at s o) (get_or table.words (object_word o) 0)
  object_is_read o there =
      object_read (object_at s o) (get_or table.words (object_word o) 0) (object_fits s r.sound.phases o there) (object_shown o there)

  pub object_seen : (o : ℕ) → o < length s.objects → ObjectFound o v (get_or table.words (object_word o) 0)
  object_seen o there =
      let is = object_is_read o there in let fits = object_fits s r.sound.phases o there in
      record {
        layout =
            let same = is.layout in let known = (object_known s r.sound.phases o there).bits_follow.layout in
            subst (λ shapes. IsKnownTag shapes (layout_in (get_or table.words (object_word o) 0))) (sym (knows.phases.shapes o)) (omega (arith, same, known));
        last = let same = is.incarnation in let most = fits.incarnation in omega (arith, same, most);
      }

  word_there : (o : ℕ) → o < length s.objects → layout_in (get_or table.words (object_word o) 0) ≡ (object_at s o).layout
  word_there o there = (object_is_read o there).layout

  -- the root of a row
  module _ (o : ℕ) (may : MayLoadRoot (length declared) o v) where
    abbrev found : ℕ
    found = get_or table.words (object_word o) 0

    pub roots : Steps F declared r.state (AtPhases (RootLoad v.number o)) (with_pass table (set table.words (object_word o) found) table.homes id (rooted_view found v))
    roots =
        reads F laws declared table r id v at (RootLoad v.number o) v.visitor.place v.visitor.read (Some (layout_in found))
        (record {
          caller = knows.there;
          may = record { objects = missed_there o may.missed; core = rw place_is may.missed; beside = refl };
        })
        (ap (λ z. visited r.state s.objects (set s.callers v.number z) r.state.kept) (sym knows.phases.visitor)
        ∙ ap (λ z. visited r.state s.objects z r.state.kept) (set-get_or s.callers v.number fresh_visitor))
        (λ l q i told inside. by_place l q i told inside)
        (λ served none. cc)
        (object_word o) where
          by_place : (l q i : ℕ) → Some (layout_in found) ≡ Some l → IsInside v.visitor.place q i → (object_at s q).layout ≡ l
          by_place l q i told inside =
              let is = missed_is v.visitor.place o may.missed in
              let here : IsInside (Missed o is.0) q i = subst (λ z. IsInside z q i) is.1 inside in
              ap (λ z. (object_at s z).layout) (sym here.0) ∙ sym (word_there o (missed_there o may.missed)) ∙ same_Some (layout_in found) l told

    pub root_seen : RootFound o v found
    root_seen = record {
      word = object_seen o (missed_there o may.missed);
      row =
          let is = missed_is v.visitor.place o may.missed in
          let inside : IsInside (visitor_at s v.number).place o is.0 = subst (λ z. IsInside z o is.0) (sym (place_is ∙ is.1)) (refl, refl) in
          (object_is_read o (missed_there o may.missed)).incarnation
          ∙ sym (inside_is_present s r.sound.phases v.number o is.0 knows.there inside).1
          ∙ ap row_of (sym is.1);
    }

  -- the end of a call
  module _ (may : MayEndCall v) where
    pub holds_no_cell : holds_none (held r.state v.number) ≡ true
    holds_no_cell = ap (λ (z : turns.Caller O R). holds_none z.held) knows.cells.taker ∙ may.free

    pub ends : (i : ℕ)
        → Steps F declared r.state (AtPhases (EndCall v.number)) (with_pass table (set table.words i (get_or table.words i 0)) table.homes id (ended_view v))
    ends i =
        reads F laws declared table r id v at (EndCall v.number) Out v.visitor.read None
        (record {
          caller = knows.there;
          may = record { objects = tt; core = rw place_is may.uncounted; beside = holds_no_cell };
        })
        (ap (λ z. visited r.state s.objects (set s.callers v.number (at_place z Out)) r.state.kept) (sym knows.phases.visitor))
        (λ l q j told inside. absurd inside)
        (λ served none. absurd (cc))
        i

  home_is : (caller_at s.turns v.number).proc ≡ v.turn.proc
  home_is = ap (λ (z : Caller). z.proc) knows.generations.turn

  gen_there : v.number < length s.turns.callers
  gen_there = turn_there s r.sound.phases v.number knows.there

  pub home_there' : v.turn.proc < length s.turns.procs
  home_there' = subst (λ p. p < length s.turns.procs) home_is (home_there s.turns v.number (turns_sound s r.sound.phases) gen_there)

  -- the entry of its own processor
  pub entry_at_home : (o : ℕ) → o < length s.objects
      → IsEntryOf (object_at s o).shapes (object_at s o).layout v.turn.proc (entry_at (object_at s o) v.turn.proc)
      × (get_or table.words (local_word v.turn.proc o) 0 ≡ local_value (entry_at (object_at s o) v.turn.proc))
  entry_at_home o there = (
    entry_known s r.sound.phases o there v.turn.proc home_there',
    (r.shows.objects o (object_at s o) (slice_get-get_or s.objects o fresh_object there)).entries v.turn.proc (entry_at (object_at s o) v.turn.proc)
        (slice_get-get_or (object_at s o).entries v.turn.proc (empty_entry 0)
        (subst (λ p. p < length (object_at s o).entries) home_is (entry_there s r.sound.phases v.number o gen_there there))),
  )

  -- a look-up
  module _ (o : ℕ) (may : MayLookUp (length declared) o v) where
    abbrev seen : ℕ
    seen = get_or table.words (local_word v.turn.proc o) 0

    abbrev e : LocalEntry
    e = entry_in seen

    there : o < length s.objects
    there = let many = r.sound.cells.rows.objects in let lt = may.there in omega (arith, many, lt)

    entry_is : e ≡ entry_at (object_at s o) v.turn.proc
    entry_is = let known = entry_at_home o there in entry_read (entry_at (object_at s o) v.turn.proc) seen known.0.fits known.1

    pub looks : Steps F declared r.state (AtPhases (LookUp v.number o)) (with_pass table (set table.words (local_word v.turn.proc o) seen) table.homes id (looked_up_view o seen v))
    looks =
        reads F laws declared table r id v at (LookUp v.number o) (place_found e.tag o e.incarnation) (with_row v.visitor.read o e.incarnation) (layout_told e)
        (record {
          caller = knows.there;
          may = record { objects = there; core = rw (ap (λ (z : Caller). is_some z.active) knows.generations.turn ∙ may.active, ap is_out place_is ∙ may.out) refl; beside = refl };
        })
        (ap (λ (z : Visitor × LocalEntry). visited r.state s.objects (set s.callers v.number (looked_up z.0 o z.1)) r.state.kept)
        (λ j. (sym knows.phases.visitor j, (entry_is ∙ ap (entry_at (object_at s o)) (sym home_is)) j)))
        (λ l q j told inside.
        told_by (eqb e.tag 1) refl l q (inside_found e.tag o e.incarnation q j inside) told)
        (λ served none. served_told e.tag o e.incarnation e.layout served none)
        (local_word v.turn.proc o) where
          told_by : (b : Bool) → eqb e.tag 1 ≡ b → (l q : ℕ) → o ≡ q → cond b (Some e.layout) None ≡ Some l → (object_at s q).layout ≡ l
          told_by true one l q same told =
              ap (λ z. (object_at s z).layout) (sym same)
              ∙ sym ((entry_at_home o there).0.direct (ap (λ (z : LocalEntry). z.tag) (sym entry_is) ∙ eqb-true e.tag 1 one))
              ∙ ap (λ (z : LocalEntry). z.layout) (sym entry_is) ∙ same_Some e.layout l told
          told_by false one l q same told = absurd (cc)

    pub entry_seen : EntryFound o v seen
    entry_seen =
        let known = (entry_at_home o there).0 in
        record {
          tag = subst (λ (z : LocalEntry). z.tag ≤ 2) (sym entry_is) known.fits.tag;
          layout = subst (λ shapes. IsKnownTag shapes (entry_in seen).layout) (sym (knows.phases.shapes o))
              (subst (λ (z : LocalEntry). IsKnownTag (object_at s o).shapes z.layout) (sym entry_is) known.known);
          cell = subst (λ shapes. (entry_in seen).tag ≡ 1 → (entry_in seen).cell ≡ root_of shapes (entry_in seen).layout v.turn.proc) (sym (knows.phases.shapes o))
              (subst (λ (z : LocalEntry). z.tag ≡ 1 → z.cell ≡ root_of (object_at s o).shapes z.layout v.turn.proc) (sym entry_is) known.root);
          last = let same = ap (λ (z : LocalEntry). z.incarnation) entry_is in let most = known.last in omega (arith, same, most);
        }

-- as moves of the pass

root_goes : {S L P O R : Type 0} (F : Layouts S L P O R) → AreLaws F → (declared : List L) (id o : ℕ) (v : PassView P O R) → MayLoadRoot (length declared) o v
    → Moves F declared (AtPhases (RootLoad v.number o)) (object_word o) (λ word. word) rooted_view id v
root_goes F laws declared id o v may = record { from = λ table r at. roots F laws declared table r id v at o may }

pub root_moves : {S L P O R : Type 0} (F : Layouts S L P O R) → AreLaws F → (declared : List L) (id o : ℕ) (v : PassView P O R) → MayLoadRoot (length declared) o v
    → Moves F declared (AtPhases (RootLoad v.number o)) (object_word o) (λ word. word) (λ found x. took steps.LoadRoot (object_word o) found (rooted_view found x)) id v
root_moves F laws declared id o v may = logged_moves steps.LoadRoot (λ n. n) (λ found q before is. is) (root_goes F laws declared id o v may)

pub root_finds : {S L P O R : Type 0} (F : Layouts S L P O R) → AreLaws F → (declared : List L) (id o : ℕ) (v : PassView P O R) → MayLoadRoot (length declared) o v
    → Finds F declared (object_word o) (RootFound o) id v
root_finds F laws declared id o v may table r at = root_seen F laws declared table r id v at o may

end_goes : {S L P O R : Type 0} (F : Layouts S L P O R) → AreLaws F → (declared : List L) (id word : ℕ) (v : PassView P O R) → MayEndCall v
    → Moves F declared (AtPhases (EndCall v.number)) word (λ word. word) (λ found. ended_view) id v
end_goes F laws declared id word v may = record { from = λ table r at. ends F laws declared table r id v at may word }

pub end_moves : {S L P O R : Type 0} (F : Layouts S L P O R) → AreLaws F → (declared : List L) (id : ℕ) (v : PassView P O R) → MayEndCall v
    → Moves F declared (AtPhases (EndCall v.number)) (local_word v.turn.proc (object_of v.visitor.place)) (λ word. word)
    (λ found x. took steps.EndCall (local_word x.turn.proc (object_of x.visitor.place)) found (ended_view x)) id v
end_moves F laws declared id v may = record {
  from = (logged_moves steps.EndCall (λ n. n) (λ found q before is. is) (end_goes F laws declared id (local_word v.turn.proc (object_of v.visitor.place)) v may)).from;
}

look_goes : {S L P O R : Type 0} (F : Layouts S L P O R) → AreLaws F → (declared : List L) (id o : ℕ) (v : PassView P O R) → MayLookUp (length declared) o v
    → Moves F declared (AtPhases (LookUp v.number o)) (local_word v.turn.proc o) (λ word. word) (looked_up_view o) id v
look_goes F laws declared id o v may = record { from = λ table r at. looks F laws declared table r id v at o may }

pub look_moves : {S L P O R : Type 0} (F : Layouts S L P O R) → AreLaws F → (declared : List L) (id o : ℕ) (v : PassView P O R) → MayLookUp (length declared) o v
    → Moves F declared (AtPhases (LookUp v.number o)) (local_word v.turn.proc o) (λ word. word)
    (λ found x. took steps.LookUp (local_word x.turn.proc o) found (looked_up_view o found x)) id v
look_moves F laws declared id o v may = record { from = (logged_moves steps.LookUp (λ n. n) (λ found q before is. is) (look_goes F laws declared id o v may)).from }

-- what it finds
pub look_finds : {S L P O R : Type 0} (F : Layouts S L P O R) → AreLaws F → (declared : List L) (id o : ℕ) (v : PassView P O R) → MayLookUp (length declared) o v
    → Finds F declared (local_word v.turn.proc o) (EntryFound o) id v
look_finds F laws declared id o v may table r at = entry_seen F laws declared table r id v at o may

-- the word tells the object
pub object_is : (p o word : ℕ) → o < 16 → word ≡ local_word p o → entry_object word ≡ o
object_is p o word few is = omega (arith, few, is)

pub word_object_is : (o word : ℕ) → word ≡ object_word o → word_object word ≡ o
word_object_is o word is = omega (arith, is)

-- as the plays tell them, at the words that the steps name

module _ {S L P O R : Type 0} (F : Layouts S L P O R) (laws : AreLaws F) (declared : List L) (id o : ℕ)
    (me : Seated P O R) (is : IsSeatOf me (pass_in me.0)) (may : MayLoadRoot (length declared) o (pass_in me.0)) (word : ℕ) (there : word ≡ object_word o) where
  abbrev root_at : ℕ → ℕ → PassView P O R → PassView P O R
  root_at i found x = took steps.LoadRoot i found (rooted_view found x)

  root_same : (found : ℕ) → root_at (object_word o) found (pass_in me.0) ≡ root_at word found (pass_in me.0)
  root_same found = ap (λ i. root_at i found (pass_in me.0)) (sym there)

  pub root_allowed : {callers : ℕ} (slots : ℕ) (step : Step (Slot P O R)) → Allows (Ruled F declared callers) slots id me word (λ n. n) (TellsWith (root_at word) (RootFound (word_object word)) step me)
  root_allowed slots step =
      retold_allowed_with (root_at (object_word o)) (root_at word) root_same (root_moves F laws declared id o (pass_in me.0) may) (RootFound (word_object word))
      (subst (λ q. Finds F declared (object_word o) (RootFound q) id (pass_in me.0)) (sym (word_object_is o word there)) (root_finds F laws declared id o (pass_in me.0) may)) me is word there slots step

  pub root_told : (step : Step (Slot P O R)) (found : ℕ) (after : Seated P O R) → TellsWith (root_at word) (RootFound (word_object word)) step me found after
      → Tells (root_at (object_word o)) step me found after
  root_told step found after told = retold (root_at (object_word o)) (root_at word) root_same me after is step found told.0

module _ {S L P O R : Type 0} (F : Layouts S L P O R) (laws : AreLaws F) (declared : List L) (id : ℕ)
    (me : Seated P O R) (is : IsSeatOf me (pass_in me.0)) (may : MayEndCall (pass_in me.0))
    (word home o : ℕ) (at : word ≡ local_word home o) (same : (pass_in me.0).turn.proc ≡ home) (of : object_of (pass_in me.0).visitor.place ≡ o) where
  end_there : word ≡ local_word (pass_in me.0).turn.proc (object_of (pass_in me.0).visitor.place)
  end_there = at ∙ ap (λ (z : ℕ × ℕ). local_word z.0 z.1) (λ j. (sym same j, sym of j))

  abbrev end_row : ℕ → PassView P O R → PassView P O R
  end_row found x = took steps.EndCall (local_word x.turn.proc (object_of x.visitor.place)) found (ended_view x)

  abbrev end_play : ℕ → PassView P O R → PassView P O R
  end_play found x = took steps.EndCall word found (ended_view x)

  end_same : (found : ℕ) → end_row found (pass_in me.0) ≡ end_play found (pass_in me.0)
  end_same found = ap (λ i. took steps.EndCall i found (ended_view (pass_in me.0))) (sym end_there)

  pub end_allowed : {callers : ℕ} (slots : ℕ) (step : Step (Slot P O R)) → Allows (Ruled F declared callers) slots id me word (λ n. n) (Tells end_play step me)
  end_allowed slots step = retold_allowed end_row end_play end_same (end_moves F laws declared id (pass_in me.0) may) me is word end_there slots step

  pub end_told : (step : Step (Slot P O R)) (found : ℕ) (after : Seated P O R) → Tells end_play step me found after → Tells end_row step me found after
  end_told step found after told = retold end_row end_play end_same me after is step found told

module _ {S L P O R : Type 0} (F : Layouts S L P O R) (laws : AreLaws F) (declared : List L) (id o : ℕ) (few : o < 16)
    (me : Seated P O R) (is : IsSeatOf me (pass_in me.0)) (may : MayLookUp (length declared) o (pass_in me.0))
    (word home : ℕ) (at : word ≡ local_word home o) (same : (pass_in me.0).turn.proc ≡ home) where
  look_there : word ≡ local_word (pass_in me.0).turn.proc o
  look_there = at ∙ ap (λ p. local_word p o) (sym same)

  abbrev look_row : ℕ → PassView P O R → PassView P O R
  look_row found x = took steps.LookUp (local_word x.turn.proc o) found (looked_up_view o found x)

  abbrev look_play : ℕ → PassView P O R → PassView P O R
  look_play found x = took steps.LookUp word found (looked_up_view (entry_object word) found x)

  look_same : (found : ℕ) → look_row found (pass_in me.0) ≡ look_play found (pass_in me.0)
  look_same found =
      ap (λ (z : ℕ × ℕ). took steps.LookUp z.0 found (looked_up_view z.1 found (pass_in me.0)))
      (λ j. (sym look_there j, sym (object_is home o word few at) j))

  pub look_allowed : {callers : ℕ} (slots : ℕ) (step : Step (Slot P O R)) → Allows (Ruled F declared callers) slots id me word (λ n. n) (TellsWith look_play (EntryFound (entry_object word)) step me)
  look_allowed slots step =
      retold_allowed_with look_row look_play look_same (look_moves F laws declared id o (pass_in me.0) may) (EntryFound (entry_object word))
      (subst (λ q. Finds F declared (local_word (pass_in me.0).turn.proc o) (EntryFound q) id (pass_in me.0)) (sym (object_is home o word few at)) (look_finds F laws declared id o (pass_in me.0) may)) me is word look_there slots step

  pub look_told : (step : Step (Slot P O R)) (found : ℕ) (after : Seated P O R) → TellsWith look_play (EntryFound (entry_object word)) step me found after → Tells look_row step me found after
  look_told step found after told = retold look_row look_play look_same me after is step found told.0
