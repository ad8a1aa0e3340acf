-- What the rule says of the steps that a pass keeps: of which objects it has freed the rows that it noted.
use Rattle.std.proofs.Common.{◌≡◌, ℕ, zero, suc, ◌<◌, ◌≤◌, Bool, true, List, [], ◌∷◌, Some, length, get_or, sym, refl, ◌∙◌, subst, ⊎_elim}
use Rattle.std.specs.List.{slice_get}
use Rattle.std.proofs.lemmas.Option.{same_Some}
use mathlib.Core.Option.{some}
use mathlib.Core.Option as maybe
use lib.ListN.{get_elem?}
use Rattle.atomic_table.specs.Table.{State}
use Rattle.atomic_table.proofs.Lists.{at_set, set_else, set_here}
use Rattle.phase_core.specs.State.{object_at, note_at}
use Rattle.k42_stamp.specs.Layouts.{Layouts}
use Rattle.k42_joined.specs.Event.{Event}
use Rattle.k42_joined.specs.Plain.{Joined}
use Rattle.k42_board.specs.Cells.{Slot}
use Rattle.k42_board.specs.Log.{took, swept_by, has_swept}
use Rattle.k42_board.specs.Rule.{Beside, KnowsPass, Knows, Shows, Rule}
use Rattle.k42_board.specs.declared.view.PassView.{PassView}
use Rattle.k42_board.specs.declared.view.StepName.{StepName}
use Rattle.k42_board.specs.declared.view.Taken.{Taken}
use Rattle.k42_board.specs.declared.view.View.{View}
use Rattle.k42_board.specs.declared.view.View.TheVariants.{Crew}
use Rattle.k42_board.proofs.CellsApart.{at_within}
use Rattle.k42_board.proofs.Moves.{Moves, Stays}
use Rattle.k42_board.proofs.OnePass.{with_pass, apart_alone}

-- the pass with another log
abbrev pub relogged : {P O R : Type 0} → PassView P O R → List Taken → PassView P O R
relogged v log = record v { log = log }

-- of which all objects that it sweeps are freed as noted
abbrev pub AreSweptAs : {L P O R : Type 0} → Joined L O R → List Taken → PassView P O R → Type 0
AreSweptAs s log v = (o n : ℕ) → has_swept log o ≡ true → note_at v.visitor.noted o ≡ Some n → n ≤ (object_at s.phases o).freed

pub known_relogged : {L P O R : Type 0} (tag_of : L → ℕ) (s : Joined L O R) (beside : Beside P) (id : ℕ) (v : PassView P O R) (log : List Taken)
    → AreSweptAs s log v → KnowsPass tag_of s beside id v → KnowsPass tag_of s beside id (relogged v log)
known_relogged tag_of s beside id v log swept k = record {
  there = k.there;
  seat = k.seat;
  names = k.names;
  generations = record { turn = k.generations.turn; graces = k.generations.graces; base = k.generations.base };
  phases = record {
    visitor = k.phases.visitor;
    shapes = k.phases.shapes;
    layout = k.phases.layout;
    learned = k.phases.learned;
    swap = record { turned = k.phases.swap.turned; layout_begun = k.phases.swap.layout_begun; begun = k.phases.swap.begun; next = k.phases.swap.next };
    rows = record { old = k.phases.rows.old; granted = k.phases.rows.granted; swept = swept; spans = k.phases.rows.spans };
  };
  cells = record { taker = k.cells.taker; notes = k.cells.notes; noted = k.cells.noted; out = k.cells.out; only = k.cells.only };
  trace = record { kept = k.trace.kept; found = k.trace.found; over = k.trace.over; handed = k.trace.handed; unhanded = k.trace.unhanded; times = k.trace.times };
}

-- where the rule stands with this pass in the seat, it stands with another record in it, and the state is the same
module _ {S L P O R : Type 0} (F : Layouts S L P O R) (declared : List L)
    (table : State (Slot P O R) (View P O R)) (words : List ℕ) (homes : List (maybe.Option (Slot P O R))) (id : ℕ) (w : PassView P O R)
    (there : id < length table.views)
    (r : Rule F declared (with_pass table words homes id w)) (log : List Taken) (swept : AreSweptAs r.state log w) where
  abbrev again : PassView P O R
  again = relogged w log

  mine : KnowsPass F.tag_of r.state r.beside id again
  mine = known_relogged F.tag_of r.state r.beside id w log swept ((r.seats id (Crew (w ∷ [])) (set_here table.views id (Crew (w ∷ [])) there)).1 0 w refl)

  own : (place : ℕ) (x : PassView P O R) → slice_get (again ∷ []) place ≡ Some x → KnowsPass F.tag_of r.state r.beside id x
  own zero x e = subst (KnowsPass F.tag_of r.state r.beside id) (same_Some again x e) mine
  own (suc place) x e = absurd (cc)

  shows : Shows r.state r.beside (with_pass table words homes id again)
  shows = record {
    many_words = r.shows.many_words;
    many_slots = r.shows.many_slots;
    few_objects = r.shows.few_objects;
    few_entries = r.shows.few_entries;
    generations = r.shows.generations;
    objects = r.shows.objects;
    cells = r.shows.cells;
  }

  pub logged_there : (after : Rule F declared (with_pass table words homes id again)) × (after.state ≡ r.state)
  logged_there = (
    record {
      state = r.state;
      sound = r.sound;
      beside = r.beside;
      shows = shows;
      parts = r.parts;
      seats = λ j view e.
          ⊎_elim
          (λ here.
          subst (λ (z : ℕ × View P O R). Knows F.tag_of r.state r.beside z.0 z.1) (λ i. (sym here.0 i, here.1 i)) (apart_alone again, own))
          (λ old. r.seats j view (set_else table.views id j (Crew (w ∷ [])) old.0 ∙ old.1))
          (at_set table.views id j (Crew (again ∷ [])) view e);
    },
    refl,
  )

pub logged : {S L P O R : Type 0} (F : Layouts S L P O R) (declared : List L)
    (table : State (Slot P O R) (View P O R)) (words : List ℕ) (homes : List (maybe.Option (Slot P O R))) (id : ℕ) (w : PassView P O R) {v : PassView P O R}
    → get_elem? table.views id ≡ some (Crew (v ∷ [])) → (r : Rule F declared (with_pass table words homes id w)) (log : List Taken) → AreSweptAs r.state log w
    → (after : Rule F declared (with_pass table words homes id (relogged w log))) × (after.state ≡ r.state)
logged F declared table words homes id w {v} at r log swept =
    logged_there F declared table words homes id w (at_within table.views id (Crew (v ∷ [])) at) r log swept

-- what a pass with this view has swept
swept_here : {S L P O R : Type 0} (F : Layouts S L P O R) (declared : List L)
    (table : State (Slot P O R) (View P O R)) (words : List ℕ) (homes : List (maybe.Option (Slot P O R))) (id : ℕ) (w : PassView P O R)
    → id < length table.views → (r : Rule F declared (with_pass table words homes id w)) → AreSweptAs r.state w.log w
swept_here F declared table words homes id w there r =
    ((r.seats id (Crew (w ∷ [])) (set_here table.views id (Crew (w ∷ [])) there)).1 0 w refl).phases.rows.swept

-- A step that sweeps no object may be kept.
module _ {S L P O R : Type 0} (F : Layouts S L P O R) (declared : List L) (name : StepName) (word told : ℕ)
    (sweeps : (o : ℕ) (before : Bool) → swept_by name word told o before ≡ true → before ≡ true)
    (table : State (Slot P O R) (View P O R)) (id : ℕ) {v : PassView P O R} (at : get_elem? table.views id ≡ some (Crew (v ∷ [])))
    (words : List ℕ) (homes : List (maybe.Option (Slot P O R))) (w : PassView P O R) (r : Rule F declared (with_pass table words homes id w)) where
  kept : (after : Rule F declared (with_pass table words homes id (took name word told w))) × (after.state ≡ r.state)
  kept =
      logged F declared table words homes id w at r _
      (λ o n is. swept_here F declared table words homes id w (at_within table.views id (Crew (v ∷ [])) at) r o n (sweeps o (has_swept w.log o) is))

module _ {S L P O R : Type 0} {F : Layouts S L P O R} {declared : List L} {word : ℕ} {new : ℕ → ℕ}
    {changed : ℕ → PassView P O R → PassView P O R} {id : ℕ} {v : PassView P O R} (name : StepName) (told : ℕ → ℕ)
    (sweeps : (found o : ℕ) (before : Bool) → swept_by name word (told found) o before ≡ true → before ≡ true) where
  pub logged_moves : {event : Event L O R} → Moves F declared event word new changed id v
      → Moves F declared event word new (λ found x. took name word (told found) (changed found x)) id v
  logged_moves moves = record {
    from = λ table r at.
        let found : ℕ = get_or table.words word 0 in
        let after = moves.from table r at in
        let again = kept F declared name word (told found) (sweeps found) table id at _ _ _ after.0 in
        (again.0, again.1 ∙ after.1, after.2);
  }

  pub logged_stays : Stays F declared word new changed id v → Stays F declared word new (λ found x. took name word (told found) (changed found x)) id v
  logged_stays stays = record {
    from = λ table r at.
        let found : ℕ = get_or table.words word 0 in
        let after = stays.from table r at in
        let again = kept F declared name word (told found) (sweeps found) table id at _ _ _ after.0 in
        (again.0, again.1 ∙ after.1);
  }

  -- the same where the word has another name
  module _ {i : ℕ} (same : i ≡ word) where
    pub logged_moves_at : {event : Event L O R} → Moves F declared event word new changed id v
        → Moves F declared event i new (λ found x. took name i (told found) (changed found x)) id v
    logged_moves_at {event} moves =
        subst (λ (j : ℕ). Moves F declared event j new (λ found x. took name j (told found) (changed found x)) id v) (sym same) (logged_moves moves)

    pub logged_stays_at : Stays F declared word new changed id v → Stays F declared i new (λ found x. took name i (told found) (changed found x)) id v
    logged_stays_at stays =
        subst (λ (j : ℕ). Stays F declared j new (λ found x. took name j (told found) (changed found x)) id v) (sym same) (logged_stays stays)
