-- A row is handed on at cells that a pass has taken: what the step owes to the rule.
use Rattle.std.proofs.Common.{nat_le, ◌≡◌, ◌≢◌, ℕ, zero, suc, ◌-◌, ◌<◌, ◌≤◌, ◌^◌, ◌&&◌, Bool, true, false, not, cond, ltb, List, [], ◌∷◌, ◌++◌, Option, Some, None, length, get_or, set, sym, refl, ap, ◌∙◌, subst, arith, get_or-set_other, get_or-set_same}
use Rattle.std.specs.List.{slice_get, list_any}
use Rattle.std.specs.Prelude.{map}
use Rattle.std.proofs.lemmas.Option.{slice_get_within, slice_get-get_or, same_Some, get_or_from_slice_get}
use Rattle.std.proofs.lemmas.List.{length_push, set-get_or}
use mathlib.Core.Option.{some}
use mathlib.Core.Option as maybe
use lib.ListN.{get_elem?}
use Rattle.atomic_table.specs.Table.{State}
use Rattle.k42_limits.specs.declared.TheConstants.{PASS_ENTRIES}
use Rattle.k42_kinds.specs.declared.entry.Entry.{Entry}
use Rattle.k42_places.specs.Places.{EachPlace}
use Rattle.k42_places.proofs.EachPlaces.{EachPlace-set}
use Rattle.phase_core.specs.Plain.{Visitor}
use Rattle.phase_core.specs.Stages.{is_moved, object_named, named_by}
use Rattle.phase_core.specs.State.{visitor_at}
use Rattle.phase_core.specs.declared.caller.SwapAt.{SwapAt}
use Rattle.phase_core.specs.declared.caller.SwapAt.TheVariants.{Moved}
use Rattle.phase_core.proofs.InSound.{one_swap}
use Rattle.turn_core.specs.Events as turns
use Rattle.turn_core.specs.Events.{cell_closed, cell_opened, cell_told, cell_begun, caller_drawn, may_begin, is_empty}
use Rattle.turn_core.specs.Names.{names, names_once}
use Rattle.turn_core.specs.Plain.{Cell, Caller, Turns}
use Rattle.turn_core.specs.State.{cell_at, caller_at, fresh_cell, fresh_caller, change_caller, change_cells}
use Rattle.turn_core.specs.declared.event.TurnEvent.TheVariants.{Hand}
use Rattle.turn_core.proofs.Changed.{callers-change_cells, length-change_cells}
use Rattle.turn_core.proofs.Later.{later_drawn}
use Rattle.k42_stamp.specs.Laws.{AreLaws}
use Rattle.k42_stamp.specs.Layouts.{Layouts}
use Rattle.k42_joined.specs.Effects.{effect, kept_drawn, hands_with}
use Rattle.k42_joined.specs.Event.{HandWith}
use Rattle.k42_joined.specs.Plain.{Kept, Joined}
use Rattle.k42_joined.specs.Possible.{IsPossible}
use Rattle.k42_joined.specs.State.{many_procs, many_objects, nothing_kept, layouts_of, incarnation}
use Rattle.k42_joined.specs.Swapping.{may_turn_over, is_newest_tag}
use Rattle.k42_joined.proofs.CellChanges.{cell_at-else, cell_at-named}
use Rattle.k42_joined.proofs.Kept.{joined_keeps}
use Rattle.k42_board.specs.Cells.{Slot, Contents, IsCellShown, IsSlot, IsNoted, KnowsCells, cells_noted}
use Rattle.k42_board.specs.Drawing.{handed_note, handed_view, untold_view}
use Rattle.k42_board.specs.Parts.{IsPart}
use Rattle.k42_board.specs.Values.{holder_value}
use Rattle.k42_board.specs.Rule.{KnowsPass, Rule}
use Rattle.k42_board.specs.declared.view.Note.{Note}
use Rattle.k42_board.specs.declared.view.PassView.{PassView}
use Rattle.k42_board.specs.declared.view.View.{View}
use Rattle.k42_board.specs.declared.view.View.TheVariants.{Crew}
use Rattle.k42_board.proofs.CellsApart.{note_of}
use Rattle.k42_board.proofs.CellsMoved.{with_contents, StaysAt, LeavesCells, others_stay}
use Rattle.k42_board.proofs.Drawers.{pass_drawn}
use Rattle.k42_board.proofs.OnePass.{with_pass, known, LeavesOthers, moved}
use Rattle.k42_board.proofs.KnownStamps.{known_after}

some_one : (c d : ℕ) → Some c ≡ Some d → c ≡ d
some_one c d e = cc

-- a cell whose life may begin has the entry alone after it
pub record HasBegun {O R : Type 0} (entry : Entry O R) (x : Cell O R) : Type 0 where
  pub history : x.history ≡ entry ∷ []
  pub closed : x.closed ≡ false

empty_is : {O R : Type 0} (entries : List (Entry O R)) → is_empty entries ≡ true → entries ≡ []
empty_is [] e = refl
empty_is (entry ∷ entries) e = absurd (cc)

pub has_begun : {O R : Type 0} (entry : Entry O R) (x : Cell O R) → may_begin x ≡ true → HasBegun entry (cell_begun entry x)
has_begun entry x = go x.closed refl where
  go : (b : Bool) → x.closed ≡ b → cond b (ltb x.life (2 ^ 32 - 2)) (is_empty x.history) ≡ true
      → HasBegun entry (cond b (cell_told entry (cell_opened x)) (cell_told entry x))
  go true is may = record { history = refl; closed = refl }
  go false is may = record { history = ap (λ h. h ++ entry ∷ []) (empty_is x.history may); closed = is }

pub begun_lock : {O R : Type 0} (entry : Entry O R) (x : Cell O R) → (cell_begun entry x).lock ≡ x.lock
begun_lock entry x = go x.closed where
  go : (closed : Bool) → (cond closed (cell_told entry (cell_opened x)) (cell_told entry x)).lock ≡ x.lock
  go true = refl
  go false = refl

pub begun_home : {O R : Type 0} (entry : Entry O R) (x : Cell O R) → (cell_begun entry x).home ≡ x.home
begun_home entry x = go x.closed where
  go : (closed : Bool) → (cond closed (cell_told entry (cell_opened x)) (cell_told entry x)).home ≡ x.home
  go true = refl
  go false = refl

-- a note is as the hand says
pub each_handed : {P O R : Type 0} (from onto : List ℕ) (entry : Entry O R) (fresh : ℕ → Option P) (notes : List (Note P O R)) (i : ℕ) (note : Note P O R)
    → slice_get (map (handed_note from onto entry fresh) notes) i ≡ Some note
    → (old : Note P O R) × (slice_get notes i ≡ Some old) × (note ≡ handed_note from onto entry fresh old)
each_handed from onto entry fresh [] i note e = absurd (cc)
each_handed from onto entry fresh (first ∷ notes) zero note e = (first, refl, sym (same_Some _ note e))
each_handed from onto entry fresh (first ∷ notes) (suc i) note e = each_handed from onto entry fresh notes i note e

pub handed_cells : {P O R : Type 0} (from onto : List ℕ) (entry : Entry O R) (fresh : ℕ → Option P) (notes : List (Note P O R))
    → cells_noted (map (handed_note from onto entry fresh) notes) ≡ cells_noted notes
handed_cells from onto entry fresh [] = refl
handed_cells from onto entry fresh (first ∷ notes) = go (names from first.cell) (names onto first.cell) (handed_cells from onto entry fresh notes) where
  go : (a b : Bool) → cells_noted (map (handed_note from onto entry fresh) notes) ≡ cells_noted notes
      → cells_noted (cond a (record first { closed = true; part = fresh first.cell }) (cond b (record first { closed = false; history = entry ∷ []; part = fresh first.cell }) first) ∷ map (handed_note from onto entry fresh) notes)
      ≡ first.cell ∷ cells_noted notes
  go true b rest = ap (λ xs. first.cell ∷ xs) rest
  go false true rest = ap (λ xs. first.cell ∷ xs) rest
  go false false rest = ap (λ xs. first.cell ∷ xs) rest

-- the slot of a cell that is away says nothing of its history and its part
away_slot : {P O R : Type 0} (n : ℕ) (x y : Cell O R) (part part' : Option P) (slot : maybe.Option (Slot P O R)) (out home : Bool) → home ≡ false
    → IsSlot n x part slot out home → IsSlot n y part' slot out home
away_slot n x y part part' slot out true e is = absurd (cc)
away_slot n x y part part' slot true false e is = is
away_slot n x y part part' slot false false e is = is

moved_names : (swap : SwapAt) → is_moved swap ≡ true → named_by swap ≡ Some (object_named swap)
moved_names (Moved o) e = refl
moved_names swap e = absurd (cc)

module _ {S L P O R : Type 0} (F : Layouts S L P O R) (laws : AreLaws F) (declared : List L)
    (table : State (Slot P O R) (View P O R)) (r : Rule F declared table) (id : ℕ) (v : PassView P O R)
    (at : get_elem? table.views id ≡ some (Crew (v ∷ []))) (from onto : List ℕ) (to : L) (entry : Entry O R) (fresh : ℕ → Option P) where
  abbrev s : Joined L O R
  s = r.state

  abbrev c : ℕ
  c = v.number

  abbrev contents : Contents P
  contents = r.beside.contents

  abbrev pub handed_contents : Contents P
  handed_contents = record contents { part = λ n. cond (names from n) (fresh n) (cond (names onto n) (fresh n) (contents.part n)) }

  abbrev base : Turns O R
  base = change_caller (caller_drawn entry) s.turns c

  abbrev begun : Turns O R
  begun = change_cells (cell_begun entry) base onto

  abbrev pub t : Turns O R
  t = turns.effect s.turns (Hand c from onto entry)

  abbrev w : PassView P O R
  w = untold_view (from ++ onto) (handed_view from onto entry (F.tag_of to) fresh v)

  abbrev after : Joined L O R
  after = effect s (HandWith c from onto to entry)

  k : KnowsPass F.tag_of s r.beside id v
  k = known F declared table r id v at

  pub handed_long : length t.cells ≡ length s.turns.cells
  handed_long = length-change_cells cell_closed begun from ∙ length-change_cells (cell_begun entry) base onto

  -- what a hand at cells that it has taken asks
  pub record IsHanding : Type 0 where
    pub possible : IsPossible F declared s (HandWith c from onto to entry)
    pub once_from : names_once from ≡ true
    pub once_onto : names_once onto ≡ true
    pub apart : (n : ℕ) → names from n ≡ true → names onto n ≡ false
    pub there_from : (n : ℕ) → names from n ≡ true → n < length s.turns.cells
    pub there_onto : (n : ℕ) → names onto n ≡ true → n < length s.turns.cells
    pub noted_from : (n : ℕ) → names from n ≡ true → names (cells_noted v.notes) n ≡ true
    pub noted_onto : (n : ℕ) → names onto n ≡ true → names (cells_noted v.notes) n ≡ true
    pub begins : (n : ℕ) → names onto n ≡ true → may_begin (cell_at s.turns n) ≡ true
    pub few : length v.taker.mine < PASS_ENTRIES
    pub moves : v.visitor.swap ≡ Moved entry.object
    pub named : entry.object < many_objects s
    pub untimed : entry.generation ≡ None
    pub handed_is : may_turn_over after F.tag_of entry.object (F.tag_of to) ≡ true
    pub parts : (n : ℕ) → n < length t.cells → IsPart F declared after n (handed_contents.part n)

  module _ (is : IsHanding) where
    c_there : c < length s.turns.callers
    c_there = let many = r.sound.cells.locks.many.callers in let lt = k.there in omega (arith, many, lt)

    at_from : (n : ℕ) → names from n ≡ true → cell_at t n ≡ cell_closed (cell_at s.turns n)
    at_from n e =
        cell_at-named cell_closed begun from n is.once_from (let lt = is.there_from n e in let long = length-change_cells (cell_begun entry) base onto in omega (arith, lt, long)) e
        ∙ ap cell_closed (cell_at-else (cell_begun entry) base onto n (is.apart n e))

    at_onto : (n : ℕ) → names from n ≡ false → names onto n ≡ true → cell_at t n ≡ cell_begun entry (cell_at s.turns n)
    at_onto n not e =
        cell_at-else cell_closed begun from n not
        ∙ cell_at-named (cell_begun entry) base onto n is.once_onto (is.there_onto n e) e

    at_else : (n : ℕ) → names from n ≡ false → names onto n ≡ false → cell_at t n ≡ cell_at s.turns n
    at_else n not not' = cell_at-else cell_closed begun from n not ∙ cell_at-else (cell_begun entry) base onto n not'

    -- a named cell is held, and away
    record IsTaken (n : ℕ) : Type 0 where
      held : (cell_at s.turns n).lock ≡ Some c
      away : (cell_at s.turns n).home ≡ false

    taken : (n : ℕ) → names (cells_noted v.notes) n ≡ true → IsTaken n
    taken n e =
        let note = note_of v.notes n e in
        let old = k.cells.notes note.place note.note note.there in
        record {
          held = ap (λ m. (cell_at s.turns m).lock) (sym note.named) ∙ old.held;
          away = ap (λ m. (cell_at s.turns m).home) (sym note.named) ∙ old.away;
        }

    -- by whether a cell is closed, begun, or neither
    by_names : (Q : ℕ → Type 0) (n : ℕ) → (names from n ≡ true → Q n) → (names from n ≡ false → names onto n ≡ true → Q n)
        → (names from n ≡ false → names onto n ≡ false → Q n) → Q n
    by_names Q n closes begins else = go (names from n) (names onto n) refl refl where
      go : (a b : Bool) → names from n ≡ a → names onto n ≡ b → Q n
      go true b e f = closes e
      go false true e f = begins e f
      go false false e f = else e f

    part_from : (n : ℕ) → names from n ≡ true → handed_contents.part n ≡ fresh n
    part_from n e = ap (λ b. cond b (fresh n) (cond (names onto n) (fresh n) (contents.part n))) e

    part_onto : (n : ℕ) → names from n ≡ false → names onto n ≡ true → handed_contents.part n ≡ fresh n
    part_onto n not e =
        ap (λ b. cond b (fresh n) (cond (names onto n) (fresh n) (contents.part n))) not ∙ ap (λ b. cond b (fresh n) (contents.part n)) e

    part_else : (n : ℕ) → names from n ≡ false → names onto n ≡ false → handed_contents.part n ≡ contents.part n
    part_else n not not' =
        ap (λ b. cond b (fresh n) (cond (names onto n) (fresh n) (contents.part n))) not ∙ ap (λ b. cond b (fresh n) (contents.part n)) not'

    stays : (n : ℕ) → names from n ≡ false → names onto n ≡ false → StaysAt F declared table r id v at t handed_contents n
    stays n not not' = record { cell = at_else n not not'; part = part_else n not not'; out = refl }

    -- locks and places stay
    lock_stays : (n : ℕ) → (cell_at t n).lock ≡ (cell_at s.turns n).lock
    lock_stays n =
        by_names (λ m. (cell_at t m).lock ≡ (cell_at s.turns m).lock) n
        (λ e. ap (λ (x : Cell O R). x.lock) (at_from n e))
        (λ not e. ap (λ (x : Cell O R). x.lock) (at_onto n not e) ∙ begun_lock entry (cell_at s.turns n))
        (λ not not'. ap (λ (x : Cell O R). x.lock) (at_else n not not'))

    home_stays : (n : ℕ) → (cell_at t n).home ≡ (cell_at s.turns n).home
    home_stays n =
        by_names (λ m. (cell_at t m).home ≡ (cell_at s.turns m).home) n
        (λ e. ap (λ (x : Cell O R). x.home) (at_from n e))
        (λ not e. ap (λ (x : Cell O R). x.home) (at_onto n not e) ∙ begun_home entry (cell_at s.turns n))
        (λ not not'. ap (λ (x : Cell O R). x.home) (at_else n not not'))

    stays_other : (n d : ℕ) → d ≢ c → (cell_at s.turns n).lock ≡ Some d → StaysAt F declared table r id v at t handed_contents n
    stays_other n d not lock =
        by_names (λ m. (cell_at s.turns m).lock ≡ Some d → StaysAt F declared table r id v at t handed_contents m) n
        (λ e lock'. absurd (not (some_one d c (sym lock' ∙ (taken n (is.noted_from n e)).held))))
        (λ no e lock'. absurd (not (some_one d c (sym lock' ∙ (taken n (is.noted_onto n e)).held))))
        (λ no no' lock'. stays n no no') lock

    callers_are : t.callers ≡ base.callers
    callers_are = callers-change_cells cell_closed begun from ∙ callers-change_cells (cell_begun entry) base onto

    leaves : LeavesCells F declared table r id v at t (kept_drawn s c false) handed_contents
    leaves = record {
      callers = λ d not.
          ap (λ callers. get_or callers d fresh_caller) callers_are
          ∙ get_or-set_other s.turns.callers c d (caller_drawn entry (caller_at s.turns c)) fresh_caller not;
      keeps = λ d not. get_or-set_other s.kept c d _ nothing_kept not;
      held = stays_other;
      holds = λ n d not lock. stays_other n d not (sym (lock_stays n) ∙ lock);
      drawn = λ stamp known.
          subst (λ (callers : List (Caller O R)). list_any (λ (x : Caller O R). nat_le stamp x.clock) callers ≡ true) (sym callers_are)
          (known_after s.turns c (caller_drawn entry (caller_at s.turns c)) stamp
          (omega (arith, later_drawn s.turns (Hand c from onto entry) entry is.possible.may.core refl)) known);
    }

    own : caller_at t c ≡ caller_drawn entry v.taker
    own =
        ap (λ callers. get_or callers c fresh_caller) callers_are
        ∙ get_or-set_same s.turns.callers c (caller_drawn entry (caller_at s.turns c)) fresh_caller c_there ∙ ap (caller_drawn entry) k.cells.taker

    -- hands of other objects stay
    layouts_else : (q : ℕ) → q ≢ entry.object → layouts_of after q ≡ layouts_of s q
    layouts_else q not = get_or-set_other s.hands entry.object q (to ∷ layouts_of s entry.object) [] not

    swap_is : (visitor_at s.phases c).swap ≡ Moved entry.object
    swap_is = ap (λ (z : Visitor). z.swap) k.phases.visitor ∙ is.moves

    -- nobody else moves the object
    moves_other : (j : ℕ) (x : PassView P O R) → x.number ≢ c → KnowsPass F.tag_of s r.beside j x → is_moved x.visitor.swap ≡ true
        → object_named x.visitor.swap ≢ entry.object
    moves_other j x not was moved' same =
        not ((one_swap s.phases r.sound.phases entry.object is.named).one x.number c was.there k.there
        (ap (λ (z : Visitor). named_by z.swap) was.phases.visitor ∙ moved_names x.visitor.swap moved' ∙ ap Some same) (ap named_by swap_is))

    others : LeavesOthers F declared table r id v at after (with_contents r.beside handed_contents)
    others =
        let still = others_stay F declared table r id v at t (kept_drawn s c false) handed_contents leaves in
        record {
          passes = λ j x not was.
              let now = still.passes j x not was in
              record {
                there = now.there;
                seat = now.seat;
                names = now.names;
                generations = now.generations;
                phases = now.phases;
                cells = now.cells;
                trace = record {
                  kept = now.trace.kept;
                  found = now.trace.found;
                  over = now.trace.over;
                  handed = λ tag e.
                      let old = was.trace.handed tag e in
                      let q = object_named x.visitor.swap in (
                        old.0,
                        ap (λ layouts. ltb (incarnation s q) (length layouts) && is_newest_tag F.tag_of layouts tag) (layouts_else q (moves_other j x not was old.0)) ∙ old.1,
                      );
                  unhanded = λ e moved'.
                      let q = object_named x.visitor.swap in
                      ap (λ layouts. ltb (incarnation s q) (length layouts)) (layouts_else q (moves_other j x not was moved')) ∙ was.trace.unhanded e moved';
                  times = now.trace.times;
                };
              };
          named = still.named;
          drawn = still.drawn;
        }

    note_after : (old : Note P O R) → IsNoted s.turns contents c old → IsNoted t handed_contents c (handed_note from onto entry fresh old)
    note_after old is' = go (names from old.cell) (names onto old.cell) refl refl where
      go : (a b : Bool) → names from old.cell ≡ a → names onto old.cell ≡ b
          → IsNoted t handed_contents c (cond a (record old { closed = true; part = fresh old.cell }) (cond b (record old { closed = false; history = entry ∷ []; part = fresh old.cell }) old))
      go true b e f = record {
        held = lock_stays old.cell ∙ is'.held;
        away = home_stays old.cell ∙ is'.away;
        history = ap (λ (x : Cell O R). x.history) (at_from old.cell e) ∙ is'.history;
        closed = ap (λ (x : Cell O R). x.closed) (at_from old.cell e);
        part = part_from old.cell e;
      }
      go false true e f =
          let begun' = has_begun entry (cell_at s.turns old.cell) (is.begins old.cell f) in
          record {
            held = lock_stays old.cell ∙ is'.held;
            away = home_stays old.cell ∙ is'.away;
            history = ap (λ (x : Cell O R). x.history) (at_onto old.cell e f) ∙ begun'.history;
            closed = ap (λ (x : Cell O R). x.closed) (at_onto old.cell e f) ∙ begun'.closed;
            part = part_onto old.cell e f;
          }
      go false false e f = record {
        held = lock_stays old.cell ∙ is'.held;
        away = home_stays old.cell ∙ is'.away;
        history = ap (λ (x : Cell O R). x.history) (at_else old.cell e f) ∙ is'.history;
        closed = ap (λ (x : Cell O R). x.closed) (at_else old.cell e f) ∙ is'.closed;
        part = part_else old.cell e f ∙ is'.part;
      }

    knows : KnowsCells t handed_contents w
    knows = record {
      taker = own;
      notes = λ place note e.
          let old = each_handed from onto entry fresh v.notes place note e in
          subst (IsNoted t handed_contents c) (sym old.2) (note_after old.0 (k.cells.notes place old.0 old.1));
      noted = λ n lock home.
          ap (λ xs. names xs n) (handed_cells from onto entry fresh v.notes) ∙ k.cells.noted n (sym (lock_stays n) ∙ lock) (sym (home_stays n) ∙ home);
      out = λ n e. let old = k.cells.out n e in record { held = lock_stays n ∙ old.held; away = home_stays n ∙ old.away; out = old.out };
      only = λ n lock out. k.cells.only n (sym (lock_stays n) ∙ lock) out;
    }

    kept_there : c < length s.kept
    kept_there = let many = r.sound.cells.locks.many.kept in let lt = k.there in omega (arith, many, lt)

    swap_names : object_named v.visitor.swap ≡ entry.object
    swap_names = ap object_named is.moves

    pass_after : KnowsPass F.tag_of after (with_contents r.beside handed_contents) id w
    pass_after =
        pass_drawn F.tag_of s t (hands_with s entry.object to) (kept_drawn s c false) r.beside handed_contents id v k entry (map (handed_note from onto entry fresh) v.notes)
        v.abandoned (Some (F.tag_of to)) (from ++ onto)
        (record {
          cells = knows;
          kept_is = get_or-set_same s.kept c _ nothing_kept kept_there ∙ ap (λ (z : Kept R). record z { found = None }) k.trace.kept;
          timely = λ generation e. let no = is.untimed in absurd (cc);
          handed_is = λ tag e. (
            ap is_moved is.moves,
            ap (λ q. may_turn_over after F.tag_of q tag) swap_names
                ∙ ap (may_turn_over after F.tag_of entry.object) (sym (same_Some (F.tag_of to) tag e)) ∙ is.handed_is,
          );
          unhanded = λ e moved'. absurd (cc);
        })

    few_after : EachPlace (λ d (x : Caller O R). length x.mine ≤ PASS_ENTRIES) t.callers
    few_after =
        subst (λ (xs : List (Caller O R)). EachPlace (λ d (x : Caller O R). length x.mine ≤ PASS_ENTRIES) xs) (sym callers_are)
        (EachPlace-set (λ d (x : Caller O R). length x.mine ≤ PASS_ENTRIES) s.turns.callers c (caller_drawn entry (caller_at s.turns c)) r.shows.few_entries
        (let less = is.few in let more = length_push (caller_at s.turns c).mine entry in let same = ap (λ (x : Caller O R). length x.mine) k.cells.taker in omega (arith, less, more, same)))

    -- the cells that are shown
    cell_after : (n : ℕ) (y : Cell O R) → slice_get t.cells n ≡ Some y → IsCellShown (many_procs s) table.words table.homes handed_contents n y
    cell_after n y e =
        let here : cell_at t n ≡ y = get_or_from_slice_get t.cells n y (fresh_cell 0) e in
        let lt : n < length s.turns.cells = let within = slice_get_within t.cells n y e in let long = handed_long in omega (arith, within, long) in
        let x = cell_at s.turns n in
        let old = r.shows.cells n x (slice_get-get_or s.turns.cells n (fresh_cell 0) lt) in
        record {
          lock = old.lock ∙ ap holder_value (sym (lock_stays n) ∙ ap (λ (z : Cell O R). z.lock) here);
          slot = λ place. let slot = old.slot place in (slot.0, slot.1, slot_after n y here slot.0 slot.2);
        }
      where
        slot_after : (n : ℕ) (y : Cell O R) → cell_at t n ≡ y → (slot : maybe.Option (Slot P O R)) → IsSlot n (cell_at s.turns n) (contents.part n) slot (contents.out n) (cell_at s.turns n).home
            → IsSlot n y (handed_contents.part n) slot (contents.out n) y.home
        slot_after n y here slot was =
            let home : y.home ≡ (cell_at s.turns n).home = ap (λ (z : Cell O R). z.home) (sym here) ∙ home_stays n in
            by_names (λ m. IsSlot m (cell_at s.turns m) (contents.part m) slot (contents.out m) (cell_at s.turns m).home → (y' : Cell O R) → cell_at t m ≡ y' → y'.home ≡ (cell_at s.turns m).home
            → IsSlot m y' (handed_contents.part m) slot (contents.out m) y'.home) n
            (λ e was' y' here' home'. subst (λ h. IsSlot n y' (handed_contents.part n) slot (contents.out n) h) (sym home')
            (away_slot n (cell_at s.turns n) y' (contents.part n) (handed_contents.part n) slot (contents.out n) (cell_at s.turns n).home (taken n (is.noted_from n e)).away was'))
            (λ no e was' y' here' home'. subst (λ h. IsSlot n y' (handed_contents.part n) slot (contents.out n) h) (sym home')
            (away_slot n (cell_at s.turns n) y' (contents.part n) (handed_contents.part n) slot (contents.out n) (cell_at s.turns n).home (taken n (is.noted_onto n e)).away was'))
            (λ no no' was' y' here' home'.
            subst (λ (z : Cell O R × Option P). IsSlot n z.0 z.1 slot (contents.out n) z.0.home) (λ i. ((sym (at_else n no no') ∙ here') i, sym (part_else n no no') i)) was')
            was y here home

    -- the rule after the step, and its state
    pub hands : (i : ℕ) → (next : Rule F declared (with_pass table (set table.words i (get_or table.words i 0)) table.homes id w)) × (next.state ≡ after)
    hands i =
        subst (λ (words : List ℕ). (next : Rule F declared (with_pass table words table.homes id w)) × (next.state ≡ after))
        (sym (set-get_or table.words i 0))
        (moved F declared table r id v at after (with_contents r.beside handed_contents) table.words table.homes w
        others
        (joined_keeps F laws declared s r.sound (HandWith c from onto to entry) is.possible)
        (record {
          many_words = r.shows.many_words;
          many_slots = r.shows.many_slots;
          few_objects = r.shows.few_objects;
          few_entries = few_after;
          generations = r.shows.generations;
          objects = r.shows.objects;
          cells = cell_after;
        })
        is.parts pass_after)
