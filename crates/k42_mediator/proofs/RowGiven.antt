-- Cells that are given back one after the other.
use Rattle.std.proofs.Common.{◌≡◌, ℕ, zero, suc, Bool, true, false, not, ◌&&◌, ◌||◌, cond, eqb, List, [], ◌∷◌, ◌++◌, Some, None, length, refl, sym, ap, ◌∙◌, subst, arith}
use Rattle.std.specs.List.{filter, slice_get}
use Rattle.std.proofs.lemmas.Bool.{eqb-true, and_parts}
use Rattle.std.proofs.lemmas.Option.{same_Some}
use Rattle.turn_core.specs.Names.{names, names_once}
use Rattle.k42_stamp.specs.Layouts.{Layouts}
use Rattle.k42_board.specs.Cells.{cells_noted}
use Rattle.k42_board.specs.Drawing.{history_noted, closed_noted, part_noted, numbers_of}
use Rattle.k42_board.specs.Log.{ComesTo, Extends, with_log}
use Rattle.k42_board.specs.Seen.{PassSeen, IsSamePass}
use Rattle.k42_board.specs.declared.cell.Content.{Content}
use Rattle.k42_board.specs.declared.view.Note.{Note}
use Rattle.k42_board.specs.declared.view.PassView.{PassView}
use Rattle.k42_board.specs.declared.view.Taken.{Taken}
use Rattle.k42_board.proofs.Gained.{extends_on}
use Rattle.k42_rule.proofs.HandedNotes.{numbers_more}
use Rattle.k42_mediator.specs.Taken.{released, MayPutBack, MayPutAllBack}
use Rattle.k42_mediator.proofs.GivenBack.{released_twice}
use Rattle.k42_mediator.proofs.Remaining.{eqb_turned}

-- what is noted of another cell stays

or_false : (b : Bool) → b || false ≡ b
or_false true = refl
or_false false = refl

module _ (n m : ℕ) (apart : eqb n m ≡ false) where
  differs : (k : ℕ) → eqb n k ≡ true → eqb k m ≡ false
  differs k e = ap (λ z. eqb z m) (sym (eqb-true n k e)) ∙ apart

  pub held_stays : (held : List ℕ) → names (filter (λ k. not (names (n ∷ []) k)) held) m ≡ names held m
  held_stays [] = refl
  held_stays (k ∷ held) = go (eqb n k) refl (held_stays held) where
    go : (b : Bool) → eqb n k ≡ b → names (filter (λ k. not (names (n ∷ []) k)) held) m ≡ names held m
        → names (cond (not (eqb n k || false)) (k ∷ filter (λ k. not (names (n ∷ []) k)) held) (filter (λ k. not (names (n ∷ []) k)) held)) m ≡ eqb k m || names held m
    go true e rest =
        ap (λ b. names (cond (not (b || false)) (k ∷ filter (λ k. not (names (n ∷ []) k)) held) (filter (λ k. not (names (n ∷ []) k)) held)) m) e ∙ rest
        ∙ sym (ap (λ b. b || names held m) (differs k e))
    go false e rest =
        ap (λ b. names (cond (not (b || false)) (k ∷ filter (λ k. not (names (n ∷ []) k)) held) (filter (λ k. not (names (n ∷ []) k)) held)) m) e
        ∙ ap (λ z. eqb k m || z) rest

module _ {P : Type 0} (n m : ℕ) (apart : eqb n m ≡ false) where
  abbrev left : {O R : Type 0} (notes : List (Note P O R)) → List (Note P O R)
  left notes = filter (λ note. not (names (n ∷ []) note.cell)) notes

  stays : {A O R : Type 0} (read : Note P O R → A) (none : A) (look : List (Note P O R) → A)
      → look [] ≡ none → ((note : Note P O R) (notes : List (Note P O R)) → look (note ∷ notes) ≡ cond (eqb note.cell m) (read note) (look notes))
      → (notes : List (Note P O R)) → look (left notes) ≡ look notes
  stays read none look nil step [] = refl
  stays read none look nil step (note ∷ notes) = go (eqb n note.cell) refl (stays read none look nil step notes) where
    go : (b : Bool) → eqb n note.cell ≡ b → look (left notes) ≡ look notes
        → look (cond (not (eqb n note.cell || false)) (note ∷ left notes) (left notes)) ≡ look (note ∷ notes)
    go true e rest =
        ap (λ b. look (cond (not (b || false)) (note ∷ left notes) (left notes))) e ∙ rest
        ∙ sym (step note notes ∙ ap (λ b. cond b (read note) (look notes)) (differs n m apart note.cell e))
    go false e rest =
        ap (λ b. look (cond (not (b || false)) (note ∷ left notes) (left notes))) e
        ∙ step note (left notes) ∙ ap (λ z. cond (eqb note.cell m) (read note) z) rest ∙ sym (step note notes)

  pub part_stays : {O R : Type 0} (notes : List (Note P O R)) → part_noted (left notes) m ≡ part_noted notes m
  part_stays notes = stays (λ note. note.part) None (λ ns. part_noted ns m) refl (λ note ns. refl) notes

  pub history_stays : {O R : Type 0} (notes : List (Note P O R)) → history_noted (left notes) m ≡ history_noted notes m
  history_stays notes = stays (λ note. note.history) [] (λ ns. history_noted ns m) refl (λ note ns. refl) notes

  pub closed_stays : {O R : Type 0} (notes : List (Note P O R)) → closed_noted (left notes) m ≡ closed_noted notes m
  closed_stays notes = stays (λ note. note.closed) false (λ ns. closed_noted ns m) refl (λ note ns. refl) notes

  pub noted_stays : {O R : Type 0} (notes : List (Note P O R)) → names (cells_noted (left notes)) m ≡ names (cells_noted notes) m
  noted_stays notes = stays (λ note. true) false (λ ns. names (cells_noted ns) m) refl (λ note ns. or_cond (eqb note.cell m) (names (cells_noted ns) m)) notes where
    or_cond : (a b : Bool) → a || b ≡ cond a true b
    or_cond true b = refl
    or_cond false b = refl

-- a cell that is ready stays so as another is given back
pub ready_stays : {S L P O R : Type 0} (F : Layouts S L P O R) (declared : List L) (id n : ℕ) (log : List Taken) (v : PassView P O R) (content : Content P O R)
    → eqb n content.number ≡ false → MayPutBack F declared id v content → MayPutBack F declared id (with_log log (released (n ∷ []) v)) content
ready_stays F declared id n log v content apart ready =
    let m : ℕ = content.number in
    record {
      cell = ready.cell;
      holds = held_stays n m apart v.taker.held ∙ ready.holds;
      held = record {
        noted = noted_stays n m apart v.notes ∙ ready.held.noted;
        history = ready.held.history ∙ sym (history_stays n m apart v.notes);
        closed = ready.held.closed ∙ sym (closed_stays n m apart v.notes);
      };
      due = λ w alike there e.
          ready.due w (record { visitor = alike.visitor; last = alike.last; handed = alike.handed }) there (e ∙ part_stays n m apart v.notes);
    }

-- the last of a list that is named once
pub record IsLastOnce (xs : List ℕ) (n : ℕ) : Type 0 where
  pub once : names_once xs ≡ true
  pub apart : names xs n ≡ false

or_parts : (a b : Bool) → a || b ≡ false → (a ≡ false) × (b ≡ false)
or_parts false b e = (refl, e)
or_parts true b e = absurd (cc)

names_end : (xs : List ℕ) (n m : ℕ) → names (xs ++ n ∷ []) m ≡ false → (names xs m ≡ false) × (eqb n m ≡ false)
names_end [] n m e = (refl, (or_parts (eqb n m) false e).0)
names_end (x ∷ xs) n m e =
    let parts = or_parts (eqb x m) (names (xs ++ n ∷ []) m) e in
    let rest = names_end xs n m parts.1 in (ap (λ b. b || names xs m) parts.0 ∙ rest.0, rest.1)

not_true : (b : Bool) → not b ≡ true → b ≡ false
not_true false e = refl
not_true true e = absurd (cc)

pub last_once : (xs : List ℕ) (n : ℕ) → names_once (xs ++ n ∷ []) ≡ true → IsLastOnce xs n
last_once [] n e = record { once = refl; apart = refl }
last_once (x ∷ xs) n e =
    let parts = and_parts (not (names (xs ++ n ∷ []) x)) (names_once (xs ++ n ∷ [])) e in
    let front = names_end xs n x (not_true (names (xs ++ n ∷ []) x) parts.0) in
    let rest = last_once xs n parts.1 in
    record {
      once = ap (λ b. not b && names_once xs) front.0 ∙ rest.once;
      apart = ap (λ b. b || names xs n) (eqb_turned x n ∙ front.1) ∙ rest.apart;
    }

-- so many cells are left
pub record IsGiving
    {S L P O R : Type 0} (F : Layouts S L P O R) (declared : List L) (first now : PassSeen P O R) (before cells : List (Content P O R))
    : Type 0 where
  pub same : IsSamePass first now
  pub once : names_once (numbers_of cells) ≡ true
  pub back : now.view.out ≡ None
  pub ready : MayPutAllBack F declared first.seat now.view cells
  pub released_is : released (numbers_of cells) now.view ≡ with_log now.view.log (released (numbers_of before) first.view)
  pub log : Extends first.view.log now.view.log

at_front : {A : Type 0} (xs : List A) (x : A) (k : ℕ) (y : A) → slice_get xs k ≡ Some y → slice_get (xs ++ x ∷ []) k ≡ Some y
at_front [] x k y e = absurd (cc)
at_front (z ∷ xs) x zero y e = e
at_front (z ∷ xs) x (suc k) y e = at_front xs x k y e

at_end : {A : Type 0} (xs : List A) (x : A) → (k : ℕ) × (slice_get (xs ++ x ∷ []) k ≡ Some x)
at_end [] x = (0, refl)
at_end (z ∷ xs) x = let rest = at_end xs x in (suc rest.0, rest.1)

unnamed : {P O R : Type 0} (contents : List (Content P O R)) (n k : ℕ) (content : Content P O R) → names (numbers_of contents) n ≡ false → slice_get contents k ≡ Some content
    → eqb n content.number ≡ false
unnamed [] n k content none e = absurd (cc)
unnamed {O} {R} (x ∷ contents) n zero content none e =
    ap (eqb n) (ap (λ (z : Content _ O R). z.number) (sym (same_Some x content e))) ∙ eqb_turned n x.number ∙ (or_parts (eqb x.number n) (names (numbers_of contents) n) none).0
unnamed (x ∷ contents) n (suc k) content none e = unnamed contents n k content (or_parts (eqb x.number n) (names (numbers_of contents) n) none).1 e

module _ {S L P O R : Type 0} (F : Layouts S L P O R) (declared : List L) (first now : PassSeen P O R) (before cells xs : List (Content P O R)) (content : Content P O R)
    (is : IsGiving F declared first now before cells) (are : cells ≡ xs ++ content ∷ []) where
  numbers : numbers_of cells ≡ numbers_of xs ++ content.number ∷ []
  numbers = ap numbers_of are ∙ numbers_more xs (content ∷ [])

  front : IsLastOnce (numbers_of xs) content.number
  front = last_once (numbers_of xs) content.number (sym (ap names_once numbers) ∙ is.once)

  ready : MayPutAllBack F declared first.seat now.view (xs ++ content ∷ [])
  ready = subst (MayPutAllBack F declared first.seat now.view) are is.ready

  pub last_ready : MayPutBack F declared first.seat now.view content
  last_ready = let at = at_end xs content in ready at.0 content at.1

  pub gives_next : (new : PassSeen P O R) → IsSamePass now new → ComesTo now.view (released (content.number ∷ []) now.view) new.view
      → IsGiving F declared first new before xs
  gives_next new same comes = record {
    same = record {
      table = same.table ∙ is.same.table;
      seat = same.seat ∙ is.same.seat;
      keep = same.keep ∙ is.same.keep;
      room = same.room ∙ is.same.room;
      row_room = same.row_room ∙ is.same.row_room;
      queue = same.queue ∙ is.same.queue;
      pushed = same.pushed ∙ is.same.pushed;
      popped = same.popped ∙ is.same.popped;
    };
    once = front.once;
    back = ap (λ (v : PassView _ O R). v.out) comes.knows;
    ready = λ k other at.
        subst (λ v. MayPutBack F declared first.seat v other) (sym comes.knows)
        (ready_stays F declared first.seat content.number new.view.log now.view other (unnamed xs content.number k other front.apart at) (ready k other (at_front xs content k other at)));
    released_is =
        ap (released (numbers_of xs)) comes.knows
        ∙ ap (with_log new.view.log)
        (released_twice (numbers_of xs) (content.number ∷ []) now.view ∙ ap (λ ns. released ns now.view) (sym numbers) ∙ is.released_is);
    log = extends_on is.log comes.log;
  }

pub nothing_left : {A : Type 0} (xs : List A) → length xs ≡ 0 → xs ≡ []
nothing_left [] e = refl
nothing_left (x ∷ xs) e = absurd (omega (arith, e))
