-- An entry is drawn at cells that a pass has taken: what the step owes to the rule.
use Rattle.std.proofs.Common.{nat_le, ◌≡◌, ◌≢◌, ℕ, ◌<◌, ◌≤◌, Bool, true, false, not, cond, List, [], ◌∷◌, ◌++◌, Option, Some, None, length, get_or, set, sym, refl, ap, ◌∙◌, subst, zero, suc, arith, get_or-set_other, get_or-set_same}
use Rattle.std.specs.List.{slice_get, list_any}
use Rattle.std.proofs.lemmas.Option.{same_Some, get_or_from_slice_get}
use Rattle.std.proofs.lemmas.List.{length_push, set-get_or}
use mathlib.Core.Option.{some}
use mathlib.Core.Option as maybe
use lib.ListN.{get_elem?}
use Rattle.atomic_table.specs.Table.{State}
use Rattle.k42_limits.specs.declared.TheConstants.{PASS_ENTRIES}
use Rattle.k42_kinds.specs.declared.entry.Entry.{Entry}
use Rattle.k42_places.specs.Places.{EachPlace}
use Rattle.k42_places.proofs.EachPlaces.{EachPlace-set}
use Rattle.turn_core.specs.Events as turns
use Rattle.turn_core.specs.Events.{cell_told, caller_drawn}
use Rattle.turn_core.specs.Names.{names, names_once}
use Rattle.turn_core.specs.Plain.{Cell, Caller, Turns}
use Rattle.turn_core.specs.State.{cell_at, caller_at, fresh_cell, fresh_caller, change_caller}
use Rattle.turn_core.specs.declared.event.TurnEvent.TheVariants.{Draw}
use Rattle.turn_core.proofs.Changed.{callers-change_cells, length-change_cells, at_changed}
use Rattle.turn_core.proofs.Later.{later_drawn}
use Rattle.k42_stamp.specs.Laws.{AreLaws}
use Rattle.k42_stamp.specs.Layouts.{Layouts}
use Rattle.k42_joined.specs.Effects.{effect, kept_drawn}
use Rattle.k42_joined.specs.Event.{AtCells}
use Rattle.k42_joined.specs.Plain.{Kept, Joined}
use Rattle.k42_joined.specs.Possible.{IsPossible}
use Rattle.k42_joined.specs.State.{many_procs, nothing_kept}
use Rattle.k42_joined.proofs.CellChanges.{cell_at-else, cell_at-named}
use Rattle.k42_joined.proofs.Kept.{joined_keeps}
use Rattle.k42_board.specs.Cells.{Slot, Contents, IsCellShown, IsSlot, IsNoted, KnowsCells, cells_noted}
use Rattle.k42_board.specs.Drawing.{told_notes, told_note, drawn_view, untold_view}
use Rattle.k42_board.specs.Parts.{IsPart}
use Rattle.k42_board.specs.Trace.{IsOfTime}
use Rattle.k42_board.specs.Rule.{KnowsPass, Rule}
use Rattle.k42_board.specs.declared.view.Note.{Note}
use Rattle.k42_board.specs.declared.view.PassView.{PassView}
use Rattle.k42_board.specs.declared.view.View.{View}
use Rattle.k42_board.specs.declared.view.View.TheVariants.{Crew}
use Rattle.k42_board.proofs.CellsApart.{note_of}
use Rattle.k42_board.proofs.CellsMoved.{moved_to, with_contents, StaysAt, LeavesCells, others_stay}
use Rattle.k42_board.proofs.Drawers.{pass_drawn}
use Rattle.k42_board.proofs.OnePass.{with_pass, known, moved}
use Rattle.k42_board.proofs.KnownStamps.{known_after}

some_one : (c d : ℕ) → Some c ≡ Some d → c ≡ d
some_one c d e = cc

-- a note is told where its cell is named
pub each_told : {P O R : Type 0} (cells : List ℕ) (entry : Entry O R) (fresh : ℕ → Option P) (notes : List (Note P O R)) (i : ℕ) (note : Note P O R)
    → slice_get (told_notes cells entry fresh notes) i ≡ Some note
    → (old : Note P O R) × (slice_get notes i ≡ Some old) × (note ≡ told_note cells entry fresh old)
each_told cells entry fresh [] i note e = absurd (cc)
each_told cells entry fresh (first ∷ notes) zero note e = (first, refl, sym (same_Some _ note e))
each_told cells entry fresh (first ∷ notes) (suc i) note e = each_told cells entry fresh notes i note e

pub told_cells : {P O R : Type 0} (cells : List ℕ) (entry : Entry O R) (fresh : ℕ → Option P) (notes : List (Note P O R))
    → cells_noted (told_notes cells entry fresh notes) ≡ cells_noted notes
told_cells cells entry fresh [] = refl
told_cells cells entry fresh (first ∷ notes) = go (names cells first.cell) (told_cells cells entry fresh notes) where
  go : (b : Bool) → cells_noted (told_notes cells entry fresh notes) ≡ cells_noted notes → cells_noted (cond b (record first { history = first.history ++ entry ∷ []; part = fresh first.cell }) first ∷ told_notes cells entry fresh notes) ≡ first.cell ∷ cells_noted notes
  go true rest = ap (λ xs. first.cell ∷ xs) rest
  go false rest = ap (λ xs. first.cell ∷ xs) rest

-- the slot of a cell that is away says nothing of its history and its part
told_slot : {P O R : Type 0} (n : ℕ) (x y : Cell O R) (part part' : Option P) (slot : maybe.Option (Slot P O R)) (out home : Bool) → home ≡ false
    → IsSlot n x part slot out home → IsSlot n y part' slot out home
told_slot n x y part part' slot out true e is = absurd (cc)
told_slot n x y part part' slot true false e is = is
told_slot n x y part part' slot false false e is = is

module _ {S L P O R : Type 0} (F : Layouts S L P O R) (laws : AreLaws F) (declared : List L)
    (table : State (Slot P O R) (View P O R)) (r : Rule F declared table) (id : ℕ) (v : PassView P O R)
    (at : get_elem? table.views id ≡ some (Crew (v ∷ []))) (cells : List ℕ) (entry : Entry O R) (fresh : ℕ → Option P) where
  abbrev s : Joined L O R
  s = r.state

  abbrev c : ℕ
  c = v.number

  abbrev contents : Contents P
  contents = r.beside.contents

  abbrev pub told_contents : Contents P
  told_contents = record contents { part = λ n. cond (names cells n) (fresh n) (contents.part n) }

  abbrev pub t : Turns O R
  t = turns.effect s.turns (Draw c cells entry)

  abbrev w : PassView P O R
  w = untold_view cells (drawn_view cells entry fresh v)

  k : KnowsPass F.tag_of s r.beside id v
  k = known F declared table r id v at

  pub drawn_long : length t.cells ≡ length s.turns.cells
  drawn_long = length-change_cells (cell_told entry) (change_caller (caller_drawn entry) s.turns c) cells

  -- what a draw at cells that it has taken asks
  pub record IsDraw : Type 0 where
    pub possible : IsPossible F declared s (AtCells (Draw c cells entry))
    pub once : names_once cells ≡ true
    pub there : (n : ℕ) → names cells n ≡ true → n < length s.turns.cells
    pub noted : (n : ℕ) → names cells n ≡ true → names (cells_noted v.notes) n ≡ true
    pub few : length v.taker.mine < PASS_ENTRIES
    pub timely : IsOfTime s.phases.turns v.turn.proc entry
    pub parts : (n : ℕ) → n < length t.cells → IsPart F declared (effect s (AtCells (Draw c cells entry))) n (told_contents.part n)

  module _ (is : IsDraw) where
    abbrev base : Turns O R
    base = change_caller (caller_drawn entry) s.turns c

    c_there : c < length s.turns.callers
    c_there = let many = r.sound.cells.locks.many.callers in let lt = k.there in omega (arith, many, lt)

    named : (n : ℕ) → names cells n ≡ true → cell_at t n ≡ cell_told entry (cell_at s.turns n)
    named n e = cell_at-named (cell_told entry) base cells n is.once (is.there n e) e

    unnamed : (n : ℕ) → names cells n ≡ false → cell_at t n ≡ cell_at s.turns n
    unnamed n e = cell_at-else (cell_told entry) base cells n e

    -- a named cell is held, and away
    record IsTaken (n : ℕ) : Type 0 where
      held : (cell_at s.turns n).lock ≡ Some c
      away : (cell_at s.turns n).home ≡ false

    taken : (n : ℕ) → names cells n ≡ true → IsTaken n
    taken n e =
        let note = note_of v.notes n (is.noted n e) in
        let old = k.cells.notes note.place note.note note.there in
        record {
          held = ap (λ m. (cell_at s.turns m).lock) (sym note.named) ∙ old.held;
          away = ap (λ m. (cell_at s.turns m).home) (sym note.named) ∙ old.away;
        }

    stays : (n : ℕ) → names cells n ≡ false → StaysAt F declared table r id v at t told_contents n
    stays n e = record { cell = unnamed n e; part = ap (λ b. cond b (fresh n) (contents.part n)) e; out = refl }

    -- locks and places stay
    lock_stays : (n : ℕ) → (cell_at t n).lock ≡ (cell_at s.turns n).lock
    lock_stays n = go (names cells n) refl where
      go : (b : Bool) → names cells n ≡ b → (cell_at t n).lock ≡ (cell_at s.turns n).lock
      go true e = ap (λ (x : Cell O R). x.lock) (named n e)
      go false e = ap (λ (x : Cell O R). x.lock) (unnamed n e)

    home_stays : (n : ℕ) → (cell_at t n).home ≡ (cell_at s.turns n).home
    home_stays n = go (names cells n) refl where
      go : (b : Bool) → names cells n ≡ b → (cell_at t n).home ≡ (cell_at s.turns n).home
      go true e = ap (λ (x : Cell O R). x.home) (named n e)
      go false e = ap (λ (x : Cell O R). x.home) (unnamed n e)

    of_other : (n d : ℕ) → d ≢ c → (cell_at s.turns n).lock ≡ Some d → names cells n ≡ false
    of_other n d not lock = go (names cells n) refl where
      go : (b : Bool) → names cells n ≡ b → names cells n ≡ false
      go false e = e
      go true e = absurd (not (some_one d c (sym lock ∙ (taken n e).held)))

    leaves : LeavesCells F declared table r id v at t (kept_drawn s c false) told_contents
    leaves = record {
      callers = λ d not.
          ap (λ callers. get_or callers d fresh_caller) (callers-change_cells (cell_told entry) base cells)
          ∙ get_or-set_other s.turns.callers c d (caller_drawn entry (caller_at s.turns c)) fresh_caller not;
      keeps = λ d not. get_or-set_other s.kept c d _ nothing_kept not;
      held = λ n d not lock. stays n (of_other n d not lock);
      holds = λ n d not lock. stays n (of_other n d not (sym (lock_stays n) ∙ lock));
      drawn = λ stamp known.
          subst (λ (callers : List (Caller O R)). list_any (λ (x : Caller O R). nat_le stamp x.clock) callers ≡ true)
          (sym (callers-change_cells (cell_told entry) base cells))
          (known_after s.turns c (caller_drawn entry (caller_at s.turns c)) stamp
          (omega (arith, later_drawn s.turns (Draw c cells entry) entry is.possible.may.core refl)) known);
    }

    own : caller_at t c ≡ caller_drawn entry v.taker
    own =
        ap (λ callers. get_or callers c fresh_caller) (callers-change_cells (cell_told entry) base cells)
        ∙ get_or-set_same s.turns.callers c (caller_drawn entry (caller_at s.turns c)) fresh_caller c_there ∙ ap (caller_drawn entry) k.cells.taker

    note_after : (old : Note P O R) → IsNoted s.turns contents c old → IsNoted t told_contents c (told_note cells entry fresh old)
    note_after old is' = go (names cells old.cell) refl where
      go : (b : Bool) → names cells old.cell ≡ b
          → IsNoted t told_contents c (cond b (record old { history = old.history ++ entry ∷ []; part = fresh old.cell }) old)
      go true e = record {
        held = lock_stays old.cell ∙ is'.held;
        away = home_stays old.cell ∙ is'.away;
        history = ap (λ (x : Cell O R). x.history) (named old.cell e) ∙ ap (λ h. h ++ entry ∷ []) is'.history;
        closed = ap (λ (x : Cell O R). x.closed) (named old.cell e) ∙ is'.closed;
        part = ap (λ b. cond b (fresh old.cell) (contents.part old.cell)) e;
      }
      go false e = record {
        held = lock_stays old.cell ∙ is'.held;
        away = home_stays old.cell ∙ is'.away;
        history = ap (λ (x : Cell O R). x.history) (unnamed old.cell e) ∙ is'.history;
        closed = ap (λ (x : Cell O R). x.closed) (unnamed old.cell e) ∙ is'.closed;
        part = ap (λ b. cond b (fresh old.cell) (contents.part old.cell)) e ∙ is'.part;
      }

    knows : KnowsCells t told_contents w
    knows = record {
      taker = own;
      notes = λ place note e.
          let old = each_told cells entry fresh v.notes place note e in
          subst (IsNoted t told_contents c) (sym old.2) (note_after old.0 (k.cells.notes place old.0 old.1));
      noted = λ n lock home.
          ap (λ xs. names xs n) (told_cells cells entry fresh v.notes) ∙ k.cells.noted n (sym (lock_stays n) ∙ lock) (sym (home_stays n) ∙ home);
      out = λ n e. let old = k.cells.out n e in record { held = lock_stays n ∙ old.held; away = home_stays n ∙ old.away; out = old.out };
      only = λ n lock out. k.cells.only n (sym (lock_stays n) ∙ lock) out;
    }

    kept_there : c < length s.kept
    kept_there = let many = r.sound.cells.locks.many.kept in let lt = k.there in omega (arith, many, lt)

    pass_after : KnowsPass F.tag_of (moved_to s t (kept_drawn s c false)) (with_contents r.beside told_contents) id w
    pass_after =
        pass_drawn F.tag_of s t s.hands (kept_drawn s c false) r.beside told_contents id v k entry (told_notes cells entry fresh v.notes) v.abandoned v.handed cells
        (record {
          cells = knows;
          kept_is = get_or-set_same s.kept c _ nothing_kept kept_there ∙ ap (λ (z : Kept R). record z { found = None }) k.trace.kept;
          timely = is.timely;
          handed_is = k.trace.handed;
          unhanded = k.trace.unhanded;
        })

    few_after : EachPlace (λ d (x : Caller O R). length x.mine ≤ PASS_ENTRIES) t.callers
    few_after =
        subst (λ (xs : List (Caller O R)). EachPlace (λ d (x : Caller O R). length x.mine ≤ PASS_ENTRIES) xs) (sym (callers-change_cells (cell_told entry) base cells))
        (EachPlace-set (λ d (x : Caller O R). length x.mine ≤ PASS_ENTRIES) s.turns.callers c (caller_drawn entry (caller_at s.turns c)) r.shows.few_entries
        (let less = is.few in let more = length_push (caller_at s.turns c).mine entry in let same = ap (λ (x : Caller O R). length x.mine) k.cells.taker in omega (arith, less, more, same)))

    cell_after : (n : ℕ) (y : Cell O R) → slice_get t.cells n ≡ Some y → IsCellShown (many_procs s) table.words table.homes told_contents n y
    cell_after n y e =
        let was = at_changed (cell_told entry) base cells n y is.once e in
        subst (IsCellShown (many_procs s) table.words table.homes told_contents n) (sym was.becomes)
        (go (names cells n) refl was.before was.there) where
          go : (b : Bool) → names cells n ≡ b → (x : Cell O R) → slice_get s.turns.cells n ≡ Some x
              → IsCellShown (many_procs s) table.words table.homes told_contents n (cond b (cell_told entry x) x)
          go true e' x here =
              let old = r.shows.cells n x here in
              let same : cell_at s.turns n ≡ x = get_or_from_slice_get s.turns.cells n x (fresh_cell 0) here in
              let away : x.home ≡ false = ap (λ (z : Cell O R). z.home) (sym same) ∙ (taken n e').away in
              record {
                lock = old.lock;
                slot = λ place. let slot = old.slot place in (slot.0, slot.1, told_slot n x (cell_told entry x) (contents.part n) (told_contents.part n) slot.0 (contents.out n) x.home away slot.2);
              }
          go false e' x here =
              let old = r.shows.cells n x here in
              record {
                lock = old.lock;
                slot = λ place.
                    let slot = old.slot place in (slot.0, slot.1, subst (λ b. IsSlot n x (cond b (fresh n) (contents.part n)) slot.0 (contents.out n) x.home) (sym e') slot.2);
              }

    -- the rule after the step, and its state
    pub draws : (i : ℕ) → (after : Rule F declared (with_pass table (set table.words i (get_or table.words i 0)) table.homes id w))
        × (after.state ≡ effect s (AtCells (Draw c cells entry)))
    draws i =
        subst (λ (words : List ℕ). (after : Rule F declared (with_pass table words table.homes id w)) × (after.state ≡ effect s (AtCells (Draw c cells entry))))
        (sym (set-get_or table.words i 0))
        (moved F declared table r id v at (effect s (AtCells (Draw c cells entry))) (with_contents r.beside told_contents) table.words table.homes w
        (others_stay F declared table r id v at t (kept_drawn s c false) told_contents leaves)
        (joined_keeps F laws declared s r.sound (AtCells (Draw c cells entry)) is.possible)
        (record {
          many_words = r.shows.many_words;
          many_slots = r.shows.many_slots;
          few_objects = r.shows.few_objects;
          few_entries = few_after;
          generations = r.shows.generations;
          objects = r.shows.objects;
          cells = cell_after;
        })
        is.parts pass_after)
