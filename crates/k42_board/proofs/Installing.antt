-- Installing a direct entry.
use Rattle.std.proofs.Common.{◌≡◌, ℕ, ◌<◌, Bool, true, false, cond, eqb, List, [], ◌∷◌, Option, Some, None, length, get_or, set, sym, refl, ap, ◌∙◌, subst, arith, le_refl}
use Rattle.std.specs.Option.{is_some, unwrap_or}
use Rattle.std.proofs.lemmas.Bool.{eqb-true, eq-eqb, and_parts}
use Rattle.std.proofs.lemmas.Option.{slice_get-get_or}
use mathlib.Core.Option.{some}
use lib.ListN.{get_elem?}
use prog.Atomic.{either}
use Rattle.k42_shapes.specs.declared.shape.Shape.{Shape}
use Rattle.atomic_table.specs.Table.{State, Step, Allows}
use Rattle.phase_core.specs.Effects.{at_place, is_empty_at, direct_entry}
use Rattle.phase_core.specs.Event.{Install}
use Rattle.phase_core.specs.Plain.{Object, Visitor, Phases}
use Rattle.phase_core.specs.Stages.{IsInside, row_of}
use Rattle.phase_core.specs.State.{object_at, visitor_at, entry_at, proc_of, put_object, put_visitor, put_entry, empty_entry, fresh_object}
use Rattle.phase_core.specs.declared.caller.Place.TheVariants.{Out, Missed, Direct}
use Rattle.phase_core.specs.declared.object.LocalEntry.{LocalEntry}
use Rattle.k42_stamp.specs.Laws.{AreLaws}
use Rattle.k42_stamp.specs.Layouts.{Layouts}
use Rattle.k42_joined.specs.Effects.{effect}
use Rattle.k42_joined.specs.Event.{AtPhases}
use Rattle.k42_joined.specs.Plain.{Joined}
use Rattle.k42_joined.specs.Possible.{IsPossible}
use Rattle.k42_joined.specs.Swapping.{holds_none}
use Rattle.turn_core.specs.Plain as turns
use Rattle.k42_board.specs.Cells.{Slot}
use Rattle.k42_board.specs.Rule.{KnowsPass, Rule, Ruled}
use Rattle.k42_board.specs.Seen.{IsSeatOf}
use Rattle.k42_board.specs.Log.{took}
use Rattle.k42_board.specs.Views.{pass_in, shapes_at}
use Rattle.k42_board.specs.Steps.{Seated, Tells}
use Rattle.k42_board.specs.Tabling.{went, entry_object, layout_learned, MayInstall, empty_before, direct_after, direct_view, ended_view, installs, installed_view}
use Rattle.k42_board.specs.Values.{local_value}
use Rattle.k42_board.specs.Words.{local_word}
use Rattle.k42_board.specs.declared.view.PassView.{PassView}
use Rattle.k42_board.specs.declared.view.StepName.TheVariants as steps
use Rattle.k42_board.specs.declared.view.View.{View}
use Rattle.k42_board.specs.declared.view.View.TheVariants.{Crew}
use Rattle.k42_board.proofs.AtTables.{Steps, AreSameRows, same_visit, visits, goes, of_entry, entry_written, rows_same, few_entries, written_shows}
use Rattle.k42_board.proofs.Fields.{IsEntryOf}
use Rattle.k42_board.proofs.Looking.{missed_is, place_is, reads, entry_at_home, home_there', object_is}
use Rattle.k42_board.proofs.Logged.{logged_moves}
use Rattle.k42_board.proofs.Moves.{Moves}
use Rattle.k42_board.proofs.OnePass.{with_pass, known}
use Rattle.k42_board.proofs.Retold.{retold, retold_allowed}

pub both_or_none : (a b : Bool) → (a ≡ true → b ≡ true) → (b ≡ true → a ≡ true) → a ≡ b
both_or_none true b f g = sym (f refl)
both_or_none false true f g = absurd (let e = g refl in cc)
both_or_none false false f g = refl

-- the word is that of an empty entry just where the entry is empty
empty_shown : (shapes : List Shape) (layout p i found : ℕ) (e : LocalEntry) → IsEntryOf shapes layout p e → found ≡ local_value e
    → eqb found (local_value (empty_entry i)) ≡ is_empty_at e i
empty_shown shapes layout p i found e is shown =
    let t = is.fits.tag in let l = is.fits.layout in let c = is.fits.cell in
    both_or_none (eqb found (local_value (empty_entry i))) (is_empty_at e i)
    (λ same.
    let here = eqb-true found (local_value (empty_entry i)) same in
    rw (eq-eqb e.tag 0 (omega (arith, here, shown, t, l, c)), eq-eqb e.incarnation i (omega (arith, here, shown, t, l, c))) refl)
    (λ empty.
    let parts = and_parts (eqb e.tag 0) (eqb e.incarnation i) empty in
    let tag = eqb-true e.tag 0 parts.0 in let row = eqb-true e.incarnation i parts.1 in
    let blank = is.empty tag in let a = blank.0 in let b = blank.1 in
    eq-eqb found (local_value (empty_entry i)) (omega (arith, shown, tag, row, a, b)))

module _ {S L P O R : Type 0} (F : Layouts S L P O R) (laws : AreLaws F) (declared : List L)
    (table : State (Slot P O R) (View P O R)) (r : Rule F declared table) (id : ℕ) (v : PassView P O R)
    (at : get_elem? table.views id ≡ some (Crew (v ∷ []))) (o cell : ℕ) (may : MayInstall (length declared) o cell v) where
  abbrev s : Phases
  s = r.state.phases

  abbrev c : ℕ
  c = v.number

  abbrev p : ℕ
  p = v.turn.proc

  abbrev i : ℕ
  i = row_of v.visitor.place

  abbrev l : ℕ
  l = layout_learned v

  abbrev k : Object
  k = object_at s o

  abbrev d : LocalEntry
  d = direct_entry (shapes_at v o) l p i

  abbrev found : ℕ
  found = get_or table.words (local_word p o) 0

  knows : KnowsPass F.tag_of r.state r.beside id v
  knows = known F declared table r id v at

  there : o < length s.objects
  there = let many = r.sound.cells.rows.objects in let lt = may.there in omega (arith, many, lt)

  few : o < 16
  few = let lt = there in let few' = r.shows.few_objects in omega (arith, lt, few')

  p_few : p < 8
  p_few =
      let lt = home_there' F laws declared table r id v at in
      let many = r.sound.phases.in_scene.in_course.many_procs in let few' = r.sound.phases.in_scene.in_course.limits.few_procs in
      omega (arith, lt, many, few')

  missed : (i : ℕ) × (v.visitor.place ≡ Missed o i)
  missed = missed_is v.visitor.place o may.missed

  -- the layout that it has learned is the object's
  learned : (m : Option ℕ) → v.layout ≡ m → is_some m ≡ true → k.layout ≡ unwrap_or m 0
  learned None e has = absurd (cc)
  learned (Some m) e has =
      knows.phases.layout m o missed.0 e (subst (λ z. IsInside z o missed.0) (sym missed.1) (refl, refl))

  layout_is : k.layout ≡ l
  layout_is = learned v.layout refl may.rooted

  entry_is : IsEntryOf k.shapes k.layout p (entry_at k p) × (found ≡ local_value (entry_at k p))
  entry_is = entry_at_home F laws declared table r id v at o there

  -- the event, where the entry is empty and where it is not
  abbrev inst : Bool → Visitor → ℕ → List Shape → ℕ → Joined L O R
  inst b y q shapes m = record r.state {
    phases =
        cond b (put_object (put_visitor s c (at_place y (Direct o (row_of y.place)))) o (put_entry k q (direct_entry shapes m q (row_of y.place)))) (put_visitor s c (at_place y Out));
    kept = r.state.kept;
  }

  test_is : eqb found (empty_before v) ≡ is_empty_at (entry_at k (proc_of s c)) (row_of (visitor_at s c).place)
  test_is =
      empty_shown k.shapes k.layout p i found (entry_at k p) entry_is.0 entry_is.1
      ∙ ap (λ (z : ℕ × Visitor). is_empty_at (entry_at k z.0) (row_of z.1.place)) (λ j. (sym home j, sym knows.phases.visitor j)) where
        home : proc_of s c ≡ p
        home = ap (λ z. z.proc) knows.generations.turn

  effect_is : effect r.state (AtPhases (Install c o)) ≡ inst (eqb found (empty_before v)) v.visitor p (shapes_at v o) l
  effect_is =
      ap (λ (z : Bool × Visitor × ℕ × List Shape × ℕ). inst z.0 z.1 z.2 z.3 z.4) (λ j. (sym test_is j, knows.phases.visitor j, home j, sym (knows.phases.shapes o) j, layout_is j)) where
        home : proc_of s c ≡ p
        home = ap (λ z. z.proc) knows.generations.turn

  possible : IsPossible F declared r.state (AtPhases (Install c o))
  possible = record {
    caller = knows.there;
    may = record {
      objects = there;
      core = rw (place_is F laws declared table r id v at) may.missed;
      beside = ap (λ (z : turns.Caller O R). holds_none z.held) knows.cells.taker ∙ may.free;
    };
  }

  abbrev Goal : Bool → Type 0
  Goal b =
      Steps F declared r.state (AtPhases (Install c o)) (with_pass table (set table.words (local_word p o) (cond b (direct_after o v) found)) table.homes id
      (cond b (direct_view o v) (ended_view v)))

  abbrev x : Visitor
  x = at_place v.visitor (Direct o i)

  abbrev objects : List Object
  objects = set s.objects o (put_entry k p d)

  rows : AreSameRows r.state objects (set s.callers c x) r.state.kept
  rows = rows_same r.state o (put_entry k p d) (set s.callers c x) r.state.kept there (record { shapes = refl; layout = refl; incarnation = refl; complete = refl; freed = le_refl k.freed })

  by_test : (b : Bool) → effect r.state (AtPhases (Install c o)) ≡ inst b v.visitor p (shapes_at v o) l → Goal b
  by_test false is =
      reads F laws declared table r id v at (Install c o) Out v.visitor.read None possible (sym is)
      (λ m q j told inside. absurd inside) (λ served none. absurd (cc)) (local_word p o)
  by_test true is =
      visits F laws declared table r id v at (Install c o) objects r.state.kept x
      (same_visit F laws declared table r id v at (Install c o) objects r.state.kept x possible (sym is) rows (λ e not. refl))
      (set table.words (local_word p o) (direct_after o v)) (went v x v.layout)
      (written_shows F laws declared table r id v at objects x r.state.kept (local_word p o) (direct_after o v) (went v x v.layout)
      (of_entry p o p_few few) rows.many
      (entry_written table.words s.objects o p k d (direct_after o v) r.shows.many_words r.shows.few_objects
      (few_entries F laws declared table r id v at) p_few few (slice_get-get_or s.objects o fresh_object there) refl r.shows.objects))
      (goes F laws declared table r id v at objects (Direct o i) v.visitor.read v.layout rows
      (record {
        layout_is = λ m q j told inside. (rows.each q).layout ∙ ap (λ z. (object_at s z).layout) (sym inside.0) ∙ layout_is ∙ ap (λ z. unwrap_or z 0) told;
        learned = λ served none. absurd (let has = may.rooted in cc);
      }))

  pub installed : Goal (eqb found (empty_before v))
  installed = by_test (eqb found (empty_before v)) effect_is

install_goes : {S L P O R : Type 0} (F : Layouts S L P O R) → AreLaws F → (declared : List L) (id o cell : ℕ) (v : PassView P O R) → MayInstall (length declared) o cell v
    → Moves F declared (AtPhases (Install v.number o)) (local_word v.turn.proc o) (installs o v) (installed_view o) id v
install_goes F laws declared id o cell v may = record { from = λ table r at. installed F laws declared table r id v at o cell may }

pub install_moves : {S L P O R : Type 0} (F : Layouts S L P O R) → AreLaws F → (declared : List L) (id o cell : ℕ) (v : PassView P O R) → MayInstall (length declared) o cell v
    → Moves F declared (AtPhases (Install v.number o)) (local_word v.turn.proc o) (installs o v)
    (λ found x. took steps.Install (local_word x.turn.proc o) found (installed_view o found x)) id v
install_moves F laws declared id o cell v may = record { from = (logged_moves steps.Install (λ n. n) (λ found q before is. is) (install_goes F laws declared id o cell v may)).from }

-- as the play tells it, of an exchange of these words at the word that the step names
module _ {S L P O R : Type 0} (F : Layouts S L P O R) (laws : AreLaws F) (declared : List L) (id o cell : ℕ) (few : o < 16)
    (me : Seated P O R) (is : IsSeatOf me (pass_in me.0)) (may : MayInstall (length declared) o cell (pass_in me.0))
    (word home : ℕ) (at : word ≡ local_word home o) (same : (pass_in me.0).turn.proc ≡ home)
    (old new : ℕ) (words : (old ≡ empty_before (pass_in me.0)) × (new ≡ direct_after o (pass_in me.0))) where
  install_there : word ≡ local_word (pass_in me.0).turn.proc o
  install_there = at ∙ ap (λ p. local_word p o) (sym same)

  abbrev install_row : ℕ → PassView P O R → PassView P O R
  install_row found x = took steps.Install (local_word x.turn.proc o) found (installed_view o found x)

  abbrev install_play : ℕ → PassView P O R → PassView P O R
  install_play found x = took steps.Install word found (installed_view (entry_object word) found x)

  install_same : (found : ℕ) → install_row found (pass_in me.0) ≡ install_play found (pass_in me.0)
  install_same found =
      ap (λ (z : ℕ × ℕ). took steps.Install z.0 found (installed_view z.1 found (pass_in me.0)))
      (λ j. (sym install_there j, sym (object_is home o word few at) j))

  pub install_allowed : {callers : ℕ} (slots : ℕ) (step : Step (Slot P O R))
      → Allows (Ruled F declared callers) slots id me word (λ n. either (eqb n old) new n) (Tells install_play step me)
  install_allowed {callers} slots step =
      subst (λ (z : ℕ × ℕ). Allows (Ruled F declared callers) slots id me word (λ n. either (eqb n z.0) z.1 n) (Tells install_play step me))
      (λ j. (sym words.0 j, sym words.1 j))
      (retold_allowed install_row install_play install_same (install_moves F laws declared id o cell (pass_in me.0) may) me is word install_there slots step)

  pub install_told : (step : Step (Slot P O R)) (found : ℕ) (after : Seated P O R) → Tells install_play step me found after → Tells install_row step me found after
  install_told step found after told = retold install_row install_play install_same me after is step found told
