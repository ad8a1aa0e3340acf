-- One cell and one pass moved: what the steps on cells owe to the rule.
use Rattle.std.proofs.Common.{◌≡◌, ◌≢◌, ◌⊎◌, ℕ, zero, suc, ◌/◌, ◌<◌, ◌≤◌, Bool, true, false, List, [], ◌∷◌, ◌++◌, Option, Some, length, get_or, set, sym, refl, ap, ◌∙◌, subst, inl, inr, arith, length-set, get_or-set_other, get_or-set_same}
use Rattle.std.proofs.lemmas.Option.{slice_get_within, get_or_from_slice_get}
use mathlib.Core.Option.{some}
use mathlib.Core.Option as maybe
use lib.ListN.{get_elem?}
use Rattle.atomic_table.specs.Table.{State}
use mathlib.Core.Logic.{dite}
use native.Mathlib.Decide.{ℕ_discrete}
use Rattle.gen_core.specs.Plain.{Generations}
use Rattle.k42_kinds.specs.declared.entry.Answer.{Answer}
use Rattle.k42_kinds.specs.declared.entry.Entry.{Entry}
use Rattle.k42_places.specs.Places.{EachPlace}
use Rattle.k42_places.proofs.Written.{get_or-set_related}
use Rattle.phase_core.specs.State.{object_at}
use Rattle.k42_stamp.specs.Fits.{Fits}
use Rattle.k42_joined.specs.Numbers.{cell_of, object_of}
use Rattle.k42_joined.specs.Rows.{history_in}
use Rattle.k42_joined.proofs.LocksCells.{IsSameTold}
use Rattle.k42_limits.specs.declared.TheConstants.{PASS_ENTRIES}
use Rattle.k42_board.specs.Generations.{Counts, KnowsGenerations}
use Rattle.k42_places.proofs.EachPlaces.{EachPlace-set_else}
use Rattle.phase_core.specs.Plain.{Object, Phases}
use Rattle.turn_core.specs.Events.{is_known}
use Rattle.turn_core.specs.Names.{names}
use Rattle.turn_core.specs.Plain.{Cell, Caller, Turns}
use Rattle.turn_core.specs.State.{cell_at, caller_at, fresh_cell, fresh_caller}
use Rattle.turn_core.specs.Sound.{histories_of}
use Rattle.k42_stamp.specs.Layouts.{Layouts}
use Rattle.k42_joined.specs.Plain.{Kept, Joined}
use Rattle.k42_joined.specs.Sound.{IsSound}
use Rattle.k42_joined.specs.State.{many_procs, many_hands, kept_of}
use Rattle.k42_board.specs.Cells.{Slot, Contents, IsCellShown, IsSlot, IsNoted, IsOut, KnowsCells, cells_noted}
use Rattle.k42_board.specs.Parts.{IsPart, row_in}
use Rattle.k42_board.specs.Trace.{KnowsTrace, IsOfTime}
use Rattle.k42_board.specs.Phases.{KnowsPhases}
use Rattle.k42_board.specs.Rule.{Beside, KnowsPass, NamesRows, Shows, Rule}
use Rattle.k42_board.specs.Words.{lock_word, slot_of}
use Rattle.k42_board.specs.declared.view.Note.{Note}
use Rattle.k42_board.specs.declared.view.PassView.{PassView}
use Rattle.k42_board.specs.declared.view.Row as named
use Rattle.k42_board.specs.declared.view.View.{View}
use Rattle.k42_board.specs.declared.view.View.TheVariants.{Crew}
use Rattle.k42_board.proofs.CellsApart.{generations_apart, objects_apart, locks_apart, slots_apart}
use Rattle.k42_board.proofs.OnePass.{with_pass, known, LeavesOthers, moved}

-- the state with these cells, and what is kept of callers
abbrev pub moved_to : {L O R : Type 0} → Joined L O R → Turns O R → List (Kept R) → Joined L O R
moved_to s turns kept = record s { turns = turns; kept = kept }

-- and where the cells have this
abbrev pub with_contents : {P : Type 0} → Beside P → Contents P → Beside P
with_contents beside contents = record beside { contents = contents }

-- the parts that are due are as before, where no history and no life changed
told_histories : {O R : Type 0} (x y : Cell O R) → IsSameTold x y → histories_of y ≡ histories_of x
told_histories x y same = ap (λ past. past ++ y.history ∷ []) same.past ∙ ap (λ history. x.past ++ history ∷ []) same.history

module _ {L O R : Type 0} (s : Joined L O R) (t : Turns O R) (kept : List (Kept R)) (told : (m : ℕ) → IsSameTold (cell_at s.turns m) (cell_at t m)) where
  history_same : (o : ℕ) → history_in (moved_to s t kept) o ≡ history_in s o
  history_same o = λ i row p. get_or (told_histories (cell_at s.turns (cell_of o row p)) (cell_at t (cell_of o row p)) (told (cell_of o row p)) i) (row / 2) []

  pub part_stays : {S P : Type 0} (F : Layouts S L P O R) (declared : List L) (n : ℕ) (part : Option P)
      → IsPart F declared s n part → IsPart F declared (moved_to s t kept) n part
  part_stays {S} {P} F declared n part is =
      let life : (cell_at t n).life ≡ (cell_at s.turns n).life = (told n).life in
      record {
        due = λ declaration chain row declares rows here freed.
            is.due declaration chain row declares
            (record {
              fits = subst (λ (h : ℕ → ℕ → List (Entry O R)). Fits F declaration (object_of n) h chain) (history_same (object_of n)) rows.fits;
              layouts = rows.layouts;
            })
            (ap (row_in chain) (sym life) ∙ here) (subst (λ (l : ℕ). (object_at s.phases (object_of n)).freed ≤ l) life freed);
        before = λ ahead. is.before (subst (λ (l : ℕ). many_hands s (object_of n) < l) life ahead);
      }

-- the rows that a seat names do not hang on what cells have
pub names_stay : {P : Type 0} (beside : Beside P) (contents : Contents P) (id : ℕ) (rows : List named.Row) → NamesRows beside id rows
    → NamesRows (with_contents beside contents) id rows
names_stay beside contents id rows is = record { named = is.named; once = is.once }

-- the pass with other notes of cells and entries
abbrev pub re_noted : {P O R : Type 0} → PassView P O R → Caller O R → Option (Answer R) → Bool → Option ℕ → List (Note P O R) → Option ℕ → List ℕ → PassView P O R
re_noted v taker found abandoned handed notes out untold = record v {
  taker = taker;
  found = found;
  abandoned = abandoned;
  handed = handed;
  notes = notes;
  out = out;
  untold = untold;
}

-- what it knows of generations, and of its call, its swap and its rows, does not hang on these
module _ {P O R : Type 0} (v : PassView P O R) (taker : Caller O R) (found : Option (Answer R)) (abandoned : Bool) (handed : Option ℕ) (notes : List (Note P O R)) (out : Option ℕ)
    (untold : List ℕ) where
  pub generations_stay : (g : Generations) (counts : Counts) → KnowsGenerations g counts v
      → KnowsGenerations g counts (re_noted v taker found abandoned handed notes out untold)
  generations_stay g counts k = record { turn = k.turn; graces = k.graces; base = k.base }

  pub phases_stay : (p : Phases) → KnowsPhases p v → KnowsPhases p (re_noted v taker found abandoned handed notes out untold)
  phases_stay p k = record {
    visitor = k.visitor;
    shapes = k.shapes;
    layout = k.layout;
    learned = k.learned;
    swap = record { turned = k.swap.turned; layout_begun = k.swap.layout_begun; begun = k.swap.begun; next = k.swap.next };
    rows = record { old = k.rows.old; granted = k.rows.granted; swept = k.rows.swept; spans = k.rows.spans };
  }

-- no view is shown
pub shows_again : {L P O R : Type 0} (s : Joined L O R) (beside : Beside P) (table : State (Slot P O R) (View P O R)) (words : List ℕ) (id : ℕ) (w : PassView P O R) → Shows s beside table
    → words ≡ table.words → Shows s beside (with_pass table words table.homes id w)
shows_again s beside table words id w shows same =
    subst (λ (z : List ℕ). Shows s beside (with_pass table z table.homes id w)) (sym same) (record {
      many_words = shows.many_words;
      many_slots = shows.many_slots;
      few_objects = shows.few_objects;
      few_entries = shows.few_entries;
      generations = shows.generations;
      objects = shows.objects;
      cells = shows.cells;
    })

-- no caller has drawn more entries than are counted
pub few_drawn : {O R : Type 0} (callers : List (Caller O R)) → EachPlace (λ c x. length x.mine ≤ PASS_ENTRIES) callers → (d : ℕ) → length (get_or callers d fresh_caller).mine ≤ PASS_ENTRIES
few_drawn [] few d = omega arith
few_drawn (x ∷ callers) few zero = few 0 x refl
few_drawn (x ∷ callers) few (suc d) = few_drawn callers (λ c y e. few (suc c) y e) d

pub same_told' : {O R : Type 0} (x : Cell O R) → IsSameTold x x
same_told' x = record { closed = refl; life = refl; history = refl; past = refl }

module _ {S L P O R : Type 0} (F : Layouts S L P O R) (declared : List L)
    (table : State (Slot P O R) (View P O R)) (r : Rule F declared table) (id : ℕ) (v : PassView P O R)
    (at : get_elem? table.views id ≡ some (Crew (v ∷ []))) where
  abbrev s : Joined L O R
  s = r.state

  -- a cell, its part and its slot stay
  pub record StaysAt (t : Turns O R) (contents : Contents P) (n : ℕ) : Type 0 where
    pub cell : cell_at t n ≡ cell_at s.turns n
    pub part : contents.part n ≡ r.beside.contents.part n
    pub out : contents.out n ≡ r.beside.contents.out n

  -- what a step on cells leaves of other callers: what they hold stays, and they come to hold nothing
  pub record LeavesCells (t : Turns O R) (kept : List (Kept R)) (contents : Contents P) : Type 0 where
    pub callers : (d : ℕ) → d ≢ v.number → caller_at t d ≡ caller_at s.turns d
    pub keeps : (d : ℕ) → d ≢ v.number → kept_of (moved_to s t kept) d ≡ kept_of s d
    pub held : (n d : ℕ) → d ≢ v.number → (cell_at s.turns n).lock ≡ Some d → StaysAt t contents n
    pub holds : (n d : ℕ) → d ≢ v.number → (cell_at t n).lock ≡ Some d → StaysAt t contents n
    -- and no clock falls
    pub drawn : (stamp : ℕ) → is_known s.turns stamp ≡ true → is_known t stamp ≡ true

  module _ (t : Turns O R) (kept : List (Kept R)) (contents : Contents P) (leaves : LeavesCells t kept contents) where
    note_stays : (c : ℕ) (note : Note P O R) → c ≢ v.number → IsNoted s.turns r.beside.contents c note → IsNoted t contents c note
    note_stays c note not is =
        let stays = leaves.held note.cell c not is.held in
        record {
          held = ap (λ (x : Cell O R). x.lock) stays.cell ∙ is.held;
          away = ap (λ (x : Cell O R). x.home) stays.cell ∙ is.away;
          history = ap (λ (x : Cell O R). x.history) stays.cell ∙ is.history;
          closed = ap (λ (x : Cell O R). x.closed) stays.cell ∙ is.closed;
          part = stays.part ∙ is.part;
        }

    cells_stay_known : (x : PassView P O R) → x.number ≢ v.number → KnowsCells s.turns r.beside.contents x → KnowsCells t contents x
    cells_stay_known x not knows = record {
      taker = leaves.callers x.number not ∙ knows.taker;
      notes = λ place note e. note_stays x.number note not (knows.notes place note e);
      noted = λ n lock home.
          let stays = leaves.holds n x.number not lock in
          knows.noted n (sym (ap (λ (y : Cell O R). y.lock) stays.cell) ∙ lock) (sym (ap (λ (y : Cell O R). y.home) stays.cell) ∙ home);
      out = λ n e.
          let is = knows.out n e in let stays = leaves.held n x.number not is.held in
          record {
            held = ap (λ (y : Cell O R). y.lock) stays.cell ∙ is.held;
            away = ap (λ (y : Cell O R). y.home) stays.cell ∙ is.away;
            out = stays.out ∙ is.out;
          };
      only = λ n lock out.
          let stays = leaves.holds n x.number not lock in
          knows.only n (sym (ap (λ (y : Cell O R). y.lock) stays.cell) ∙ lock) (sym stays.out ∙ out);
    }

    trace_stays_known : (x : PassView P O R) → x.number ≢ v.number → KnowsTrace F.tag_of s x → KnowsTrace F.tag_of (moved_to s t kept) x
    trace_stays_known x not knows = record {
      kept = leaves.keeps x.number not ∙ knows.kept;
      found = knows.found;
      over = knows.over;
      handed = knows.handed;
      unhanded = knows.unhanded;
      times = knows.times;
    }

    pub others_stay : LeavesOthers F declared table r id v at (moved_to s t kept) (with_contents r.beside contents)
    others_stay = record {
      passes = λ j x not knows. record {
        there = knows.there;
        seat = knows.seat;
        names = names_stay r.beside contents j x.rows knows.names;
        generations = knows.generations;
        phases = knows.phases;
        cells = cells_stay_known x not knows.cells;
        trace = trace_stays_known x not knows.trace;
      };
      named = λ j row not old is. (old, is);
      drawn = leaves.drawn;
    }

  few_objects : length s.phases.objects ≤ 16
  few_objects = r.shows.few_objects

  few_processors : EachPlace (λ o (k : Object). length k.entries ≤ 8) s.phases.objects
  few_processors o k here =
      let long = (r.sound.phases.in_scene.objects o k here).many_entries in
      let few = r.sound.phases.in_scene.in_course.limits.few_procs in omega (arith, long, few)

  pub few_cells : length s.turns.cells ≤ 256
  few_cells = let many = r.sound.cells.locks.many.cells in let few = r.shows.few_objects in omega (arith, many, few)

  -- one cell became another, with its word, its slot and its part
  pub record OneCell (n new : ℕ) (homes : List (maybe.Option (Slot P O R))) (contents : Contents P) (y : Cell O R) : Type 0 where
    pub there : n < length s.turns.cells
    pub many : length homes ≡ length table.homes
    pub slots : (k : ℕ) → k ≢ slot_of n → get_elem? homes k ≡ get_elem? table.homes k
    pub parts : (m : ℕ) → m ≢ n → contents.part m ≡ r.beside.contents.part m
    pub outs : (m : ℕ) → m ≢ n → contents.out m ≡ r.beside.contents.out m
    pub shown : IsCellShown (many_procs s) (set table.words (lock_word n) new) homes contents n y

  pub one_cell_shows : (n new : ℕ) (homes : List (maybe.Option (Slot P O R))) (contents : Contents P) (y : Cell O R) (t : Turns O R) (kept : List (Kept R)) (w : PassView P O R)
      → t.cells ≡ set s.turns.cells n y → EachPlace (λ c x. length x.mine ≤ PASS_ENTRIES) t.callers → OneCell n new homes contents y
      → Shows (moved_to s t kept) (with_contents r.beside contents) (with_pass table (set table.words (lock_word n) new) homes id w)
  one_cell_shows n new homes contents y t kept w cells few_mine one = record {
    many_words = length-set table.words (lock_word n) new ∙ r.shows.many_words;
    many_slots = one.many ∙ r.shows.many_slots;
    few_objects = r.shows.few_objects;
    few_entries = few_mine;
    generations =
        generations_apart table.words n new s.phases.turns r.beside.counts small (r.sound.cells.locks.many.few_procs) r.shows.generations;
    objects = objects_apart table.words n new s.phases.objects small few_objects few_processors r.shows.objects;
    cells =
        subst (λ (xs : List (Cell O R)). EachPlace (IsCellShown (many_procs s) (set table.words (lock_word n) new) homes contents) xs) (sym cells)
        (EachPlace-set_else (IsCellShown (many_procs s) table.words table.homes r.beside.contents)
        (IsCellShown (many_procs s) (set table.words (lock_word n) new) homes contents) s.turns.cells n y r.shows.cells one.shown
        (λ m x not e is. other m x not (slice_get_within s.turns.cells m x e) is));
  } where
    small : n < 256
    small = let there = one.there in let few = few_cells in omega (arith, there, few)

    other : (m : ℕ) (x : Cell O R) → m ≢ n → m < length s.turns.cells → IsCellShown (many_procs s) table.words table.homes r.beside.contents m x
        → IsCellShown (many_procs s) (set table.words (lock_word n) new) homes contents m x
    other m x not there is =
        let near : m < 256 = let few = few_cells in omega (arith, there, few) in
        record {
          lock = get_or-set_other table.words (lock_word n) (lock_word m) new 0 (locks_apart n m small near not) ∙ is.lock;
          slot = λ place.
              let old = is.slot place in (
                old.0,
                one.slots (slot_of m) (slots_apart n m small near not) ∙ old.1,
                subst (λ (z : Option P × Bool). IsSlot m x z.0 old.0 z.1 x.home) (λ i. (sym (one.parts m not) i, sym (one.outs m not) i)) old.2,
              );
        }

  -- a cell other than the one that moved
  pub set_cells : (n : ℕ) (y : Cell O R) (callers : List (Caller O R)) (m : ℕ) → m ≢ n
      → cell_at (record { cells = set s.turns.cells n y; callers = callers }) m ≡ cell_at s.turns m
  set_cells n y callers m not = get_or-set_other s.turns.cells n m y (fresh_cell 0) not

  -- one cell moved, told as before, and with it what one pass knows
  module _ (n new : ℕ) (homes : List (maybe.Option (Slot P O R))) (contents : Contents P) (y : Cell O R) (callers : List (Caller O R))
      (taker : Caller O R) (notes : List (Note P O R)) (out : Option ℕ) where
    abbrev pub t : Turns O R
    t = record { cells = set s.turns.cells n y; callers = callers }

    abbrev pub w : PassView P O R
    w = record v { taker = taker; notes = notes; out = out }

    -- the cell was nobody else's, and is nobody else's now
    pub record IsMove : Type 0 where
      pub one : OneCell n new homes contents y
      pub was : (d : ℕ) → d ≢ v.number → (cell_at s.turns n).lock ≢ Some d
      pub now : (d : ℕ) → d ≢ v.number → y.lock ≢ Some d
      pub told : IsSameTold (cell_at s.turns n) y
      pub others : (d : ℕ) → d ≢ v.number → caller_at t d ≡ caller_at s.turns d
      pub own : caller_at t v.number ≡ taker
      pub mine : taker.mine ≡ v.taker.mine
      pub drawn : (stamp : ℕ) → is_known s.turns stamp ≡ true → is_known t stamp ≡ true
      pub part : IsPart F declared s n (contents.part n)
      pub notes_are :
          EachPlace (λ place note. ((note.cell ≢ n) × IsNoted s.turns r.beside.contents v.number note) ⊎ IsNoted t contents v.number note) notes
      pub noted : y.lock ≡ Some v.number → y.home ≡ false → names (cells_noted notes) n ≡ true
      pub still : (m : ℕ) → m ≢ n → names (cells_noted v.notes) m ≡ true → names (cells_noted notes) m ≡ true
      pub old_out : (m : ℕ) → v.out ≡ Some m → m ≡ n
      pub new_out : (m : ℕ) → out ≡ Some m → (m ≡ n) × IsOut t contents v.number n
      pub only : y.lock ≡ Some v.number → contents.out n ≡ true → out ≡ Some n

    module _ (is : IsMove) where
      here : cell_at t n ≡ y
      here = get_or-set_same s.turns.cells n y (fresh_cell 0) is.one.there

      stays_else : (m : ℕ) → m ≢ n → StaysAt t contents m
      stays_else m not = record { cell = set_cells n y callers m not; part = is.one.parts m not; out = is.one.outs m not }

      leaves : LeavesCells t s.kept contents
      leaves = record {
        callers = is.others;
        keeps = λ d not. refl;
        held = λ m d not lock. stays_else m (λ e. is.was d not (ap (λ k. (cell_at s.turns k).lock) (sym e) ∙ lock));
        holds = λ m d not lock. stays_else m (λ e. is.now d not (ap (λ (x : Cell O R). x.lock) (sym here) ∙ ap (λ k. (cell_at t k).lock) (sym e) ∙ lock));
        drawn = is.drawn;
      }

      knows : KnowsCells s.turns r.beside.contents v
      knows = (known F declared table r id v at).cells

      note_after : (note : Note P O R) → ((note.cell ≢ n) × IsNoted s.turns r.beside.contents v.number note) ⊎ IsNoted t contents v.number note
          → IsNoted t contents v.number note
      note_after note (inr new') = new'
      note_after note (inl old) =
          let stays = stays_else note.cell old.0 in
          record {
            held = ap (λ (x : Cell O R). x.lock) stays.cell ∙ old.1.held;
            away = ap (λ (x : Cell O R). x.home) stays.cell ∙ old.1.away;
            history = ap (λ (x : Cell O R). x.history) stays.cell ∙ old.1.history;
            closed = ap (λ (x : Cell O R). x.closed) stays.cell ∙ old.1.closed;
            part = stays.part ∙ old.1.part;
          }

      noted_after : (m : ℕ) → (cell_at t m).lock ≡ Some v.number → (cell_at t m).home ≡ false → names (cells_noted notes) m ≡ true
      noted_after m lock home = dite (ℕ_discrete m n)
          (λ e.
          let there : cell_at t m ≡ y = ap (cell_at t) e ∙ here in
          ap (names (cells_noted notes)) e
          ∙ is.noted (ap (λ (x : Cell O R). x.lock) (sym there) ∙ lock) (ap (λ (x : Cell O R). x.home) (sym there) ∙ home))
          (λ not.
          let same = sym (set_cells n y callers m not) in
          is.still m not (knows.noted m (ap (λ (x : Cell O R). x.lock) same ∙ lock) (ap (λ (x : Cell O R). x.home) same ∙ home)))

      only_after : (m : ℕ) → (cell_at t m).lock ≡ Some v.number → contents.out m ≡ true → out ≡ Some m
      only_after m lock away = dite (ℕ_discrete m n)
          (λ e.
          let there : cell_at t m ≡ y = ap (cell_at t) e ∙ here in
          is.only (ap (λ (x : Cell O R). x.lock) (sym there) ∙ lock) (ap contents.out (sym e) ∙ away) ∙ ap Some (sym e))
          (λ not.
          let same = sym (set_cells n y callers m not) in
          absurd (not (is.old_out m (knows.only m (ap (λ (x : Cell O R). x.lock) same ∙ lock) (sym (is.one.outs m not) ∙ away)))))

      cells_after : KnowsCells t contents w
      cells_after = record {
        taker = is.own;
        notes = λ place note e. note_after note (is.notes_are place note e);
        noted = noted_after;
        out = λ m e. let new' = is.new_out m e in subst (IsOut t contents v.number) (sym new'.0) new'.1;
        only = only_after;
      }

      pass_after : KnowsPass F.tag_of (moved_to s t s.kept) (with_contents r.beside contents) id w
      pass_after =
          let k = known F declared table r id v at in
          record {
            there = k.there;
            seat = k.seat;
            names = names_stay r.beside contents id v.rows k.names;
            generations = generations_stay v taker v.found v.abandoned v.handed notes out v.untold s.phases.turns r.beside.counts k.generations;
            phases = phases_stay v taker v.found v.abandoned v.handed notes out v.untold s.phases k.phases;
            cells = cells_after;
            trace = record {
              kept = k.trace.kept;
              found = k.trace.found;
              over = k.trace.over;
              handed = k.trace.handed;
              unhanded = k.trace.unhanded;
              times = subst (λ (entries : List (Entry O R)). EachPlace (λ place entry. IsOfTime s.phases.turns v.turn.proc entry) entries) (sym is.mine) k.trace.times;
            };
          }

      few_after : EachPlace (λ c x. length x.mine ≤ PASS_ENTRIES) callers
      few_after d x e =
          let here = get_or_from_slice_get callers d x fresh_caller e in
          subst (λ (z : Caller O R). length z.mine ≤ PASS_ENTRIES) here
          (dite (ℕ_discrete d v.number)
          (λ same.
          let own : (get_or callers d fresh_caller).mine ≡ (caller_at s.turns v.number).mine = ap (λ k. (get_or callers k fresh_caller).mine) same ∙ ap (λ (z : Caller O R). z.mine) is.own ∙ is.mine ∙ sym (ap (λ (z : Caller O R). z.mine) knows.taker) in
          subst (λ (mine : List (Entry O R)). length mine ≤ PASS_ENTRIES) (sym own) (few_drawn s.turns.callers r.shows.few_entries v.number))
          (λ not. subst (λ (z : Caller O R). length z.mine ≤ PASS_ENTRIES) (sym (is.others d not)) (few_drawn s.turns.callers r.shows.few_entries d)))

      told : (m : ℕ) → IsSameTold (cell_at s.turns m) (cell_at t m)
      told m = get_or-set_related IsSameTold same_told' s.turns.cells n m y (fresh_cell 0) is.told

      parts_after : (m : ℕ) → m < length t.cells → IsPart F declared (moved_to s t s.kept) m (contents.part m)
      parts_after m lt =
          part_stays s t s.kept told F declared m (contents.part m)
          (dite (ℕ_discrete m n) (λ e. subst (λ k. IsPart F declared s k (contents.part k)) (sym e) is.part)
          (λ not. subst (IsPart F declared s m) (sym (is.one.parts m not)) (r.parts m (omega (arith, lt, length-set s.turns.cells n y)))))

      pub cell_moved : (goal : Joined L O R) → moved_to s t s.kept ≡ goal → IsSound F declared goal
          → (after : Rule F declared (with_pass table (set table.words (lock_word n) new) homes id w)) × (after.state ≡ goal)
      cell_moved goal same sound =
          let after =
          moved F declared table r id v at (moved_to s t s.kept) (with_contents r.beside contents) (set table.words (lock_word n) new) homes w
          (others_stay t s.kept contents leaves) (subst (IsSound F declared) (sym same) sound)
          (one_cell_shows n new homes contents y t s.kept w refl few_after is.one) parts_after pass_after in
          (after.0, after.1 ∙ same)
