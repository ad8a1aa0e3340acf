-- Each step on a lock or a slot keeps the rule, as its event.
use Rattle.std.proofs.Common.{nat_le, ◌≡◌, ◌≢◌, ◌⊎◌, ℕ, ◌<◌, Bool, true, false, not, List, [], ◌∷◌, Option, Some, None, length, get_or, set, sym, refl, ap, ◌∙◌, subst, inl, inr, arith, length-set, get_or-set_same}
use Rattle.std.specs.List.{slice_get, list_any}
use Rattle.std.proofs.lemmas.List.{set-get_or}
use Rattle.std.proofs.lemmas.Option.{slice_get-get_or}
use mathlib.Core.Option.{none, some}
use mathlib.Core.Option as maybe
use lib.ListN.{get_elem?}
use Rattle.atomic_table.specs.Table.{State}
use Rattle.atomic_table.proofs.Lists.{set_here, set_else}
use Rattle.turn_core.specs.Events.{cell_taken, cell_put, is_known}
use Rattle.turn_core.specs.Plain.{Cell, Caller, Turns}
use Rattle.turn_core.specs.State.{cell_at, caller_at, fresh_cell, fresh_caller}
use Rattle.k42_stamp.specs.Laws.{AreLaws}
use Rattle.k42_stamp.specs.Layouts.{Layouts}
use Rattle.k42_joined.specs.Plain.{Joined}
use Rattle.k42_joined.specs.Possible.{MayTouch}
use Rattle.k42_joined.specs.State.{many_procs}
use Rattle.k42_board.specs.Cells.{Slot, Contents, IsCell, IsCellShown, IsSlot, IsNoted, KnowsCells, cells_noted}
use Rattle.k42_board.specs.Parts.{IsPart}
use Rattle.k42_board.specs.Rule.{Rule}
use Rattle.k42_board.specs.Taking.{noted, without}
use Rattle.k42_board.specs.Words.{lock_word, slot_of}
use Rattle.k42_board.specs.Values.{holder_value}
use Rattle.k42_board.specs.declared.cell.Content as code
use Rattle.k42_board.specs.declared.view.Note.{Note}
use Rattle.k42_board.specs.declared.view.PassView.{PassView}
use Rattle.k42_board.specs.declared.view.View.{View}
use Rattle.k42_board.specs.declared.view.View.TheVariants.{Crew}
use Rattle.k42_board.proofs.CellsApart.{written, written_here, written_else, each_first, first_noted, further_noted, each_without, still_noted}
use Rattle.k42_board.proofs.CellsMoved.{same_told', IsMove, few_cells, shows_again}
use Rattle.k42_board.proofs.OnePass.{with_pass, known, moved}

-- a word that is none but the holder's
pub free_word : (lock : Option ℕ) → holder_value lock ≡ 0 → lock ≡ None
free_word None e = refl
free_word (Some c) e = absurd (omega (arith, e))

pub held_word : (lock : Option ℕ) → holder_value lock ≢ 0 → (c : ℕ) × (lock ≡ Some c)
held_word None e = absurd (e refl)
held_word (Some c) e = (c, refl)

pub some_one : (c d : ℕ) → Some c ≡ Some d → c ≡ d
some_one c d e = cc

module _ {S L P O R : Type 0} (F : Layouts S L P O R) (laws : AreLaws F) (declared : List L)
    (table : State (Slot P O R) (View P O R)) (r : Rule F declared table) (id : ℕ) (v : PassView P O R)
    (at : get_elem? table.views id ≡ some (Crew (v ∷ []))) (n : ℕ) where
  abbrev s : Joined L O R
  s = r.state

  abbrev c : ℕ
  c = v.number

  abbrev x : Cell O R
  x = cell_at s.turns n

  abbrev i : ℕ
  i = lock_word n

  abbrev contents : Contents P
  contents = r.beside.contents

  knows : KnowsCells s.turns contents v
  knows = (known F declared table r id v at).cells

  -- a word is written as it was found, and nothing else moves
  pub stands : (found : ℕ) → get_or table.words i 0 ≡ found
      → (after : Rule F declared (with_pass table (set table.words i found) table.homes id v)) × (after.state ≡ s)
  stands found is =
      let same : set table.words i found ≡ table.words = ap (set table.words i) (sym is) ∙ set-get_or table.words i 0 in
      moved F declared table r id v at s r.beside (set table.words i found) table.homes v
      (record { passes = λ j y not k. k; named = λ j row not old is. (old, is); drawn = λ stamp known. known }) r.sound
      (shows_again s r.beside table (set table.words i found) id v r.shows same) r.parts
      (known F declared table r id v at)

  -- the cell, of which the pass holds the lock or may take it
  module _ (there : n < length s.turns.cells) (touched : MayTouch s c n) where
    at_n : slice_get s.turns.cells n ≡ Some x
    at_n = slice_get-get_or s.turns.cells n (fresh_cell 0) there

    shown : IsCellShown (many_procs s) table.words table.homes contents n x
    shown = r.shows.cells n x at_n

    in_words : i < length table.words
    in_words = let few = few_cells F declared table r id v at in let wide = r.shows.many_words in let lt = there in omega (arith, few, wide, lt)

    in_slots : slot_of n < length table.homes
    in_slots = let few = few_cells F declared table r id v at in let wide = r.shows.many_slots in let lt = there in omega (arith, few, wide, lt)

    -- the slot of a cell at home has its content, and is not out
    pub record HasContent (slot : maybe.Option (Slot P O R)) : Type 0 where
      pub inside : contents.out n ≡ false
      pub content : code.Content P O R
      pub full : slot ≡ some (Some content)
      pub is : IsCell n x.history x.closed (contents.part n) content

    at_home : (slot : maybe.Option (Slot P O R)) → (out home : Bool) → home ≡ true → contents.out n ≡ out
        → IsSlot n x (contents.part n) slot out home → HasContent slot
    at_home slot out true e is has = record { inside = is ∙ has.0; content = has.1.0; full = has.1.1; is = has.1.2 }
    at_home slot out false e is has = absurd (cc)

    pub has_content : x.home ≡ true → (slot : maybe.Option (Slot P O R)) × (get_elem? table.homes (slot_of n) ≡ some slot) × HasContent slot
    has_content home =
        let slot = shown.slot touched.place in
        (slot.0, slot.1, at_home slot.0 (contents.out n) x.home home refl slot.2)

    not_noted : x.home ≡ true → (note : Note P O R) → IsNoted s.turns contents c note → note.cell ≢ n
    not_noted home note is e =
        let away : x.home ≡ false = ap (λ k. (cell_at s.turns k).home) (sym e) ∙ is.away in
        absurd (cc)

    -- the lock of a cell at home is taken or left
    module _ (lock : Option ℕ) (new : ℕ) (callers : List (Caller O R)) (taker : Caller O R) where
      abbrev relocked : Cell O R
      relocked = record x { lock = lock }

      pub relock : x.home ≡ true → v.out ≡ None → ((d : ℕ) → d ≢ c → x.lock ≢ Some d) → ((d : ℕ) → d ≢ c → lock ≢ Some d) → new ≡ holder_value lock
          → ((d : ℕ) → d ≢ c → get_or callers d fresh_caller ≡ caller_at s.turns d) → get_or callers c fresh_caller ≡ taker → taker.mine ≡ v.taker.mine
          → ((stamp : ℕ) → is_known s.turns stamp ≡ true → list_any (λ (z : Caller O R). nat_le stamp z.clock) callers ≡ true)
          → IsMove F declared table r id v at n new table.homes contents relocked callers taker v.notes v.out
      relock home idle was now word others own mine drawn = record {
        one = record {
          there = there;
          many = refl;
          slots = λ k not. refl;
          parts = λ m not. refl;
          outs = λ m not. refl;
          shown = record {
            lock = get_or-set_same table.words i new 0 in_words ∙ word;
            slot = λ place.
                let has = has_content home in (
                  has.0,
                  has.1,
                  subst (λ (z : Bool × Bool). IsSlot n relocked (contents.part n) has.0 z.0 z.1) (λ k. (sym has.2.inside k, sym home k))
                      (refl, (has.2.content, has.2.full, has.2.is)),
                );
          };
        };
        was = was;
        now = now;
        told = record { closed = refl; life = refl; history = refl; past = refl };
        others = others;
        own = own;
        mine = mine;
        drawn = drawn;
        part = r.parts n there;
        notes_are = λ place note e. let is = knows.notes place note e in inl (not_noted home note is, is);
        noted = λ held away. absurd (cc);
        still = λ m not e. e;
        old_out = λ m e. absurd (cc);
        new_out = λ m e. absurd (cc);
        only = λ held out. let inside = (has_content home).2.inside in absurd (cc);
      }

    -- the cell as it is, while its slot is out or comes back
    abbrev as_before : Turns O R
    as_before = record { cells = set s.turns.cells n x; callers = s.turns.callers }

    pub before : as_before ≡ s.turns
    before = λ k. record { cells = set-get_or s.turns.cells n (fresh_cell 0) k; callers = s.turns.callers }

    note_before : (after : Contents P) → ((m : ℕ) → after.part m ≡ contents.part m) → (note : Note P O R) → IsNoted s.turns contents c note
        → IsNoted as_before after c note
    note_before after parts note is =
        let same : cell_at as_before note.cell ≡ cell_at s.turns note.cell = ap (λ t. cell_at t note.cell) before in
        record {
          held = ap (λ (y : Cell O R). y.lock) same ∙ is.held;
          away = ap (λ (y : Cell O R). y.home) same ∙ is.away;
          history = ap (λ (y : Cell O R). y.history) same ∙ is.history;
          closed = ap (λ (y : Cell O R). y.closed) same ∙ is.closed;
          part = parts note.cell ∙ is.part;
        }

    abbrev with_out : Bool → Contents P
    with_out out = record contents { out = written contents.out n out }

    abbrev with_own : Option P → Contents P
    with_own own = record { part = written contents.part n own; out = written contents.out n false }

    -- the pass holds the cell
    module _ (held : x.lock ≡ Some c) where
      others_not : (d : ℕ) → d ≢ c → x.lock ≢ Some d
      others_not d not e = not (some_one d c (sym e ∙ held))

      same_content : {a b : code.Content P O R} → some (some (Some a)) ≡ some (some (Some b)) → a ≡ b
      same_content e = cc

      abbrev t_taken : Turns O R
      t_taken = record { cells = set s.turns.cells n (cell_taken x); callers = s.turns.callers }

      here_taken : cell_at t_taken n ≡ cell_taken x
      here_taken = get_or-set_same s.turns.cells n (cell_taken x) (fresh_cell 0) there

      note_taken : (content : code.Content P O R) → IsCell n x.history x.closed (contents.part n) content → IsNoted t_taken (with_out true) c (noted content)
      note_taken content is =
          let same : cell_at t_taken content.number ≡ cell_taken x = ap (cell_at t_taken) is.number ∙ here_taken in
          record {
            held = ap (λ (y : Cell O R). y.lock) same ∙ held;
            away = ap (λ (y : Cell O R). y.home) same;
            history = ap (λ (y : Cell O R). y.history) same ∙ sym (ap (λ z. z.history) is.told);
            closed = ap (λ (y : Cell O R). y.closed) same ∙ sym (ap (λ z. z.closed) is.told);
            part = ap contents.part is.number ∙ sym is.part;
          }

      -- the cell leaves its place
      pub take_move : v.out ≡ None → x.home ≡ true → (content : code.Content P O R) → get_elem? table.homes (slot_of n) ≡ some (some (Some content))
          → IsMove F declared table r id v at n (get_or table.words i 0) (set table.homes (slot_of n) none) (with_out true) (cell_taken x) s.turns.callers v.taker
          (noted content ∷ v.notes) (Some content.number)
      take_move idle home content full =
          let has = has_content home in
          let same : has.2.content ≡ content = same_content (sym (has.1 ∙ ap some has.2.full) ∙ full) in
          let is : IsCell n x.history x.closed (contents.part n) content = subst (IsCell n x.history x.closed (contents.part n)) same has.2.is in
          record {
            one = record {
              there = there;
              many = length-set table.homes (slot_of n) none;
              slots = λ k not. set_else table.homes (slot_of n) k none not;
              parts = λ m not. refl;
              outs = λ m not. written_else contents.out n true m not;
              shown = record {
                lock = get_or-set_same table.words i (get_or table.words i 0) 0 in_words ∙ shown.lock;
                slot = λ place. (
                  none,
                  set_here table.homes (slot_of n) none in_slots,
                  subst (λ z. IsSlot n (cell_taken x) (contents.part n) none z false) (sym (written_here contents.out n true)) refl,
                );
              };
            };
            was = others_not;
            now = others_not;
            told = record { closed = refl; life = refl; history = refl; past = refl };
            others = λ d not. refl;
            own = knows.taker;
            mine = refl;
            drawn = λ stamp known. known;
            part = r.parts n there;
            notes_are = each_first (λ note. ((note.cell ≢ n) × IsNoted s.turns contents c note) ⊎ IsNoted (t_taken) (with_out true) c note) (noted content) v.notes
                (inr (note_taken content is))
                (λ place note e. let old = knows.notes place note e in inl (not_noted home note old, old));
            noted = λ lock away. first_noted content.number n (cells_noted v.notes) is.number;
            still = λ m not e. further_noted content.number m (cells_noted v.notes) e;
            old_out = λ m e. absurd (cc);
            new_out = λ m e. (sym (some_one content.number m e) ∙ is.number, record { held = ap (λ (y : Cell O R). y.lock) here_taken ∙ held; away = ap (λ (y : Cell O R). y.home) here_taken; out = written_here contents.out n true });
            only = λ lock out. ap Some is.number;
          }

      -- the slot goes out, or comes back, while the cell is away
      pub slot_move : (out' : Bool) (homes : List (maybe.Option (Slot P O R))) (slot : maybe.Option (Slot P O R)) (out : Option ℕ)
          → x.home ≡ false → homes ≡ set table.homes (slot_of n) slot → IsSlot n x (contents.part n) slot out' false
          → ((m : ℕ) → v.out ≡ Some m → m ≡ n) → ((m : ℕ) → out ≡ Some m → (m ≡ n) × (out' ≡ true)) → (out' ≡ true → out ≡ Some n)
          → IsMove F declared table r id v at n (get_or table.words i 0) homes (with_out out') x s.turns.callers v.taker v.notes out
      slot_move out' homes slot out away are is old new' only =
          let here : cell_at as_before n ≡ x = ap (λ t. cell_at t n) before in
          record {
            one = record {
              there = there;
              many = ap length are ∙ length-set table.homes (slot_of n) slot;
              slots = λ k not. ap (λ hs. get_elem? hs k) are ∙ set_else table.homes (slot_of n) k slot not;
              parts = λ m not. refl;
              outs = λ m not. written_else contents.out n out' m not;
              shown = record {
                lock = get_or-set_same table.words i (get_or table.words i 0) 0 in_words ∙ shown.lock;
                slot = λ place. (
                  slot,
                  ap (λ hs. get_elem? hs (slot_of n)) are ∙ set_here table.homes (slot_of n) slot in_slots,
                  subst (λ (z : Bool × Bool). IsSlot n x (contents.part n) slot z.0 z.1) (λ k. (sym (written_here contents.out n out') k, sym away k)) is,
                );
              };
            };
            was = others_not;
            now = others_not;
            told = same_told' x;
            others = λ d not. refl;
            own = knows.taker;
            mine = refl;
            drawn = λ stamp known. known;
            part = r.parts n there;
            notes_are = λ place note e. inr (note_before (with_out out') (λ m. refl) note (knows.notes place note e));
            noted = λ lock home. knows.noted n lock home;
            still = λ m not e. e;
            old_out = old;
            new_out = λ m e. let both = new' m e in (both.0, record { held = ap (λ (y : Cell O R). y.lock) here ∙ held; away = ap (λ (y : Cell O R). y.home) here ∙ away; out = written_here contents.out n out' ∙ both.1 });
            only = λ lock e. only (sym (written_here contents.out n out') ∙ e);
          }

      -- the cell comes back to its place
      pub put_move : v.out ≡ Some n → x.home ≡ false → (content : code.Content P O R) → IsCell n x.history x.closed content.part content
          → IsPart F declared s n content.part
          → IsMove F declared table r id v at n (get_or table.words i 0) (set table.homes (slot_of n) (some (Some content))) (with_own content.part) (cell_put x)
          s.turns.callers v.taker (without n v.notes) None
      put_move idle away content is part = record {
        one = record {
          there = there;
          many = length-set table.homes (slot_of n) (some (Some content));
          slots = λ k not. set_else table.homes (slot_of n) k (some (Some content)) not;
          parts = λ m not. written_else contents.part n content.part m not;
          outs = λ m not. written_else contents.out n false m not;
          shown = record {
            lock = get_or-set_same table.words i (get_or table.words i 0) 0 in_words ∙ shown.lock;
            slot = λ place. (
              some (Some content),
              set_here table.homes (slot_of n) (some (Some content)) in_slots,
              (written_here contents.out n false, (content, refl, subst (λ own. IsCell n x.history x.closed own content) (sym (written_here contents.part n content.part)) is)),
            );
          };
        };
        was = others_not;
        now = others_not;
        told = record { closed = refl; life = refl; history = refl; past = refl };
        others = λ d not. refl;
        own = knows.taker;
        mine = refl;
        drawn = λ stamp known. known;
        part = subst (IsPart F declared s n) (sym (written_here contents.part n content.part)) part;
        notes_are = λ place note e. let kept = each_without n v.notes place note e in inl (kept.apart, knows.notes kept.place note kept.there);
        noted = λ lock home. absurd (cc);
        still = λ m not e. still_noted n m v.notes not e;
        old_out = λ m e. some_one m n (sym e ∙ idle);
        new_out = λ m e. absurd (cc);
        only = λ lock e. let inside = written_here contents.out n false in absurd (cc);
      }
