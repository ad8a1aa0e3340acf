-- What a pass has noted of cells, and what becomes of its notes as it draws.
use Rattle.std.proofs.Common.{◌≡◌, ℕ, zero, suc, ◌+◌, ◌-◌, ◌≤◌, ◌||◌, Bool, true, false, not, cond, eqb, List, [], ◌∷◌, ◌++◌, Option, Some, length, sym, refl, ap, ◌∙◌, subst, arith}
use Rattle.std.specs.List.{slice_get}
use Rattle.std.specs.Prelude.{max}
use Rattle.std.proofs.lemmas.Bool.{eqb-true, eq-eqb, and_parts, not-true}
use Rattle.std.proofs.lemmas.List.{length_push}
use Rattle.std.proofs.lemmas.Option.{same_Some}
use Rattle.k42_limits.specs.declared.TheConstants.{LAST_STAMP}
use Rattle.k42_kinds.specs.declared.entry.Act.TheVariants.{Call}
use Rattle.k42_kinds.specs.declared.entry.Answer.TheVariants.{Replied}
use Rattle.k42_kinds.specs.declared.entry.Entry.{Entry}
use Rattle.phase_core.specs.Stages.{object_of, row_of}
use Rattle.k42_joined.specs.Drawing.{first_cell}
use Rattle.k42_places.specs.Places.{EachPlace}
use Rattle.turn_core.specs.Names.{names, names_once}
use Rattle.turn_core.specs.Stamps.{last_stamp, stamp_of}
use Rattle.k42_board.specs.Cells.{cells_noted}
use Rattle.k42_board.specs.Drawing.{history_noted, closed_noted, part_noted, last_noted, last_told, numbers_of, part_in, IsHeld, AreHeld, told_note, told_notes, draws_at, untold_view, HasSmallStamp, entry_at, stamp_next}
use Rattle.k42_board.specs.Log.{took}
use Rattle.k42_board.specs.Receipts.{IsDue, AreDue, closed_due}
use Rattle.k42_board.specs.Seen.{IsSeatOf}
use Rattle.k42_board.specs.Steps.{Seated}
use Rattle.k42_board.specs.Views.{pass_in}
use Rattle.k42_board.specs.declared.cell.Content.{Content}
use Rattle.k42_board.specs.declared.view.Note.{Note}
use Rattle.k42_board.specs.declared.view.PassView.{PassView}
use Rattle.k42_board.specs.declared.view.StepName.TheVariants as steps
use Rattle.k42_board.proofs.CellsDrawn.{told_cells}

-- the note that counts is the first of its cell
pub record IsFirst {P O R : Type 0} (notes : List (Note P O R)) (n : ℕ) : Type 0 where
  pub place : ℕ
  pub note : Note P O R
  pub there : slice_get notes place ≡ Some note
  pub named : note.cell ≡ n
  pub history : history_noted notes n ≡ note.history
  pub closed : closed_noted notes n ≡ note.closed
  pub part : part_noted notes n ≡ note.part

pub first_note : {P O R : Type 0} (notes : List (Note P O R)) (n : ℕ) → names (cells_noted notes) n ≡ true → IsFirst notes n
first_note [] n e = absurd (cc)
first_note (note ∷ notes) n e = go (eqb note.cell n) refl e (first_note notes n) where
  go : (b : Bool) → eqb note.cell n ≡ b → b || names (cells_noted notes) n ≡ true → (names (cells_noted notes) n ≡ true → IsFirst notes n) → IsFirst (note ∷ notes) n
  go true same e rest = record {
    place = 0;
    note = note;
    there = refl;
    named = eqb-true note.cell n same;
    history = ap (λ b. cond b note.history (history_noted notes n)) same;
    closed = ap (λ b. cond b note.closed (closed_noted notes n)) same;
    part = ap (λ b. cond b note.part (part_noted notes n)) same;
  }
  go false apart e rest' =
      let rest = rest' e in
      record {
        place = suc rest.place;
        note = rest.note;
        there = rest.there;
        named = rest.named;
        history = ap (λ b. cond b note.history (history_noted notes n)) apart ∙ rest.history;
        closed = ap (λ b. cond b note.closed (closed_noted notes n)) apart ∙ rest.closed;
        part = ap (λ b. cond b note.part (part_noted notes n)) apart ∙ rest.part;
      }

-- a further note of another cell leaves what is held
pub held_further : {P O R : Type 0} (notes : List (Note P O R)) (note : Note P O R) (content : Content P O R) → names (cells_noted notes) note.cell ≡ false → IsHeld notes content → IsHeld (note ∷ notes) content
held_further notes note content new held = record {
  noted = or_right (eqb note.cell content.number) (names (cells_noted notes) content.number) held.noted;
  history = held.history ∙ ap (λ b. cond b note.history (history_noted notes content.number)) (sym apart);
  closed = held.closed ∙ ap (λ b. cond b note.closed (closed_noted notes content.number)) (sym apart);
} where
  or_right : (a b : Bool) → b ≡ true → a || b ≡ true
  or_right true b e = refl
  or_right false b e = e

  apart : eqb note.cell content.number ≡ false
  apart = go (eqb note.cell content.number) refl where
    go : (b : Bool) → eqb note.cell content.number ≡ b → b ≡ false
    go false e = refl
    go true e = let same = eqb-true note.cell content.number e in let here = sym new ∙ ap (names (cells_noted notes)) same ∙ held.noted in absurd (cc)

-- the last stamp of a longer list
slice_push : {O R : Type 0} (h : List (Entry O R)) (e : Entry O R) → slice_get (h ++ e ∷ []) (length h) ≡ Some e
slice_push [] e = refl
slice_push (first ∷ h) e = slice_push h e

pub last_push : {O R : Type 0} (h : List (Entry O R)) (e : Entry O R) → last_stamp (h ++ e ∷ []) ≡ e.stamp
last_push h e =
    let more = length_push h e in
    let there : length (h ++ e ∷ []) - 1 ≡ length h = omega (arith, more) in
    ap (λ i. stamp_of (slice_get (h ++ e ∷ []) i)) there ∙ ap stamp_of (slice_push h e)

-- the greatest last stamp of held cells is the one that they tell
pub last_held : {P O R : Type 0} (notes : List (Note P O R)) (contents : List (Content P O R)) → AreHeld notes contents → last_told contents ≡ last_noted notes (numbers_of contents)
last_held notes [] held = refl
last_held notes (content ∷ contents) held =
    let one : content.last ≡ last_stamp (history_noted notes content.number) = content.told.last ∙ ap last_stamp (held 0 content refl).history in
    (λ i. max (one i) (last_held notes contents (λ j x e. held (suc j) x e) i))

-- contents and their numbers

pub record HasContent {P O R : Type 0} (contents : List (Content P O R)) (n : ℕ) : Type 0 where
  pub place : ℕ
  pub content : Content P O R
  pub there : slice_get contents place ≡ Some content
  pub number : content.number ≡ n

pub content_of : {P O R : Type 0} (contents : List (Content P O R)) (n : ℕ) → names (numbers_of contents) n ≡ true → HasContent contents n
content_of [] n e = absurd (cc)
content_of (content ∷ contents) n e = go (eqb content.number n) refl e (content_of contents n) where
  go : (b : Bool) → eqb content.number n ≡ b → b || names (numbers_of contents) n ≡ true → (names (numbers_of contents) n ≡ true → HasContent contents n) → HasContent (content ∷ contents) n
  go true same e rest = record { place = 0; content = content; there = refl; number = eqb-true content.number n same }
  go false apart e rest' = let rest = rest' e in record { place = suc rest.place; content = rest.content; there = rest.there; number = rest.number }

pub held_named : {P O R : Type 0} (notes : List (Note P O R)) (contents : List (Content P O R)) → AreHeld notes contents → (n : ℕ) → names (numbers_of contents) n ≡ true → names (cells_noted notes) n ≡ true
held_named notes contents held n e =
    let has = content_of contents n e in
    ap (names (cells_noted notes)) (sym has.number) ∙ (held has.place has.content has.there).noted

named_at : {P O R : Type 0} (contents : List (Content P O R)) (k : ℕ) (content : Content P O R) → slice_get contents k ≡ Some content → names (numbers_of contents) content.number ≡ true
named_at [] k content e = absurd (cc)
named_at {O} {R} (first ∷ contents) zero content e = let same = eq-eqb first.number content.number (ap (λ (x : Content _ O R). x.number) (same_Some first content e)) in rw same refl
named_at (first ∷ contents) (suc k) content e = go (eqb first.number content.number) (named_at contents k content e) where
  go : (b : Bool) → names (numbers_of contents) content.number ≡ true → b || names (numbers_of contents) content.number ≡ true
  go true e = refl
  go false e = e

-- the part of the number of a cell is its own
pub part_at_number : {P O R : Type 0} (contents : List (Content P O R)) → names_once (numbers_of contents) ≡ true → (k : ℕ) (content : Content P O R) → slice_get contents k ≡ Some content
    → part_in contents content.number ≡ content.part
part_at_number [] once k content e = absurd (cc)
part_at_number {O} {R} (first ∷ contents) once zero content e =
    let same : first ≡ content = same_Some first content e in
    ap (λ b. cond b first.part (part_in contents content.number)) (eq-eqb first.number content.number (ap (λ (x : Content _ O R). x.number) same)) ∙ ap (λ (x : Content _ O R). x.part) same
part_at_number (first ∷ contents) once (suc k) content e =
    let parts = and_parts (not (names (numbers_of contents) first.number)) (names_once (numbers_of contents)) once in
    ap (λ b. cond b first.part (part_in contents content.number)) (apart (not-true (names (numbers_of contents) first.number) parts.0)) ∙ part_at_number contents parts.1 k content e
  where
    apart : names (numbers_of contents) first.number ≡ false → eqb first.number content.number ≡ false
    apart new = go (eqb first.number content.number) refl where
      go : (b : Bool) → eqb first.number content.number ≡ b → b ≡ false
      go false is = refl
      go true is = let same = eqb-true first.number content.number is in let here = sym new ∙ ap (names (numbers_of contents)) same ∙ named_at contents k content e in absurd (cc)

-- the notes after a draw

module _ {P O R : Type 0} (cells : List ℕ) (entry : Entry O R) (fresh : ℕ → Option P) where
  told_one : (note : Note P O R) → (told_note cells entry fresh note).cell ≡ note.cell
  told_one note = go (names cells note.cell) where
    go : (b : Bool) → (cond b (record note { history = note.history ++ entry ∷ []; part = fresh note.cell }) note).cell ≡ note.cell
    go true = refl
    go false = refl

  told_closed_one : (note : Note P O R) → (told_note cells entry fresh note).closed ≡ note.closed
  told_closed_one note = go (names cells note.cell) where
    go : (b : Bool) → (cond b (record note { history = note.history ++ entry ∷ []; part = fresh note.cell }) note).closed ≡ note.closed
    go true = refl
    go false = refl

  told_history_one : (note : Note P O R) → names cells note.cell ≡ true → (told_note cells entry fresh note).history ≡ note.history ++ entry ∷ []
  told_history_one note e = ap (λ b. (cond b (record note { history = note.history ++ entry ∷ []; part = fresh note.cell }) note).history) e

  pub told_closed : (notes : List (Note P O R)) (n : ℕ) → closed_noted (told_notes cells entry fresh notes) n ≡ closed_noted notes n
  told_closed [] n = refl
  told_closed (note ∷ notes) n = λ i. cond (eqb (told_one note i) n) (told_closed_one note i) (told_closed notes n i)

  pub told_history : (notes : List (Note P O R)) (n : ℕ) → names cells n ≡ true → names (cells_noted notes) n ≡ true
      → history_noted (told_notes cells entry fresh notes) n ≡ history_noted notes n ++ entry ∷ []
  told_history [] n named e = absurd (cc)
  told_history (note ∷ notes) n named e =
      (λ i. cond (eqb (told_one note i) n) (told_note cells entry fresh note).history (history_noted (told_notes cells entry fresh notes) n))
      ∙ go (eqb note.cell n) refl e (told_history notes n named)
    where
      go : (b : Bool) → eqb note.cell n ≡ b → b || names (cells_noted notes) n ≡ true
          → (names (cells_noted notes) n ≡ true → history_noted (told_notes cells entry fresh notes) n ≡ history_noted notes n ++ entry ∷ [])
          → cond (eqb note.cell n) (told_note cells entry fresh note).history (history_noted (told_notes cells entry fresh notes) n) ≡ cond (eqb note.cell n) note.history (history_noted notes n) ++ entry ∷ []
      go true same e rest =
          let here : names cells note.cell ≡ true = ap (names cells) (eqb-true note.cell n same) ∙ named in
          ap (λ b. cond b (told_note cells entry fresh note).history (history_noted (told_notes cells entry fresh notes) n)) same
          ∙ told_history_one note here ∙ ap (λ b. cond b note.history (history_noted notes n) ++ entry ∷ []) (sym same)
      go false apart e rest =
          ap (λ b. cond b (told_note cells entry fresh note).history (history_noted (told_notes cells entry fresh notes) n)) apart
          ∙ rest e ∙ ap (λ b. cond b note.history (history_noted notes n) ++ entry ∷ []) (sym apart)

  -- what a cell is told of the entry
  pub due_told : (notes : List (Note P O R)) (content : Content P O R) → IsHeld notes content → names cells content.number ≡ true → entry.stamp ≤ LAST_STAMP
      → IsDue (told_notes cells entry fresh notes) content.number content.closed entry.stamp
  due_told notes content held named small = record {
    noted = ap (λ xs. names xs content.number) (told_cells cells entry fresh notes) ∙ held.noted;
    closed = content.told.closed ∙ held.closed ∙ sym (told_closed notes content.number);
    last = sym (last_push (history_noted notes content.number) entry) ∙ ap last_stamp (sym (told_history notes content.number named held.noted));
    small = small;
  }

  stays_closed : (b : Bool) → b ≡ closed_due 0 false b
  stays_closed true = refl
  stays_closed false = refl

  pub all_due_told : (notes : List (Note P O R)) (contents : List (Content P O R)) → AreHeld notes contents
      → EachPlace (λ place (content : Content P O R). names cells content.number ≡ true) contents → entry.stamp ≤ LAST_STAMP
      → AreDue (told_notes cells entry fresh notes) 0 false entry.stamp contents
  all_due_told notes [] held named small = tt
  all_due_told notes (content ∷ contents) held named small = (
    subst (λ b. IsDue (told_notes cells entry fresh notes) content.number b entry.stamp) (stays_closed content.closed)
        (due_told notes content (held 0 content refl) (named 0 content refl) small),
    all_due_told notes contents (λ i x e. held (suc i) x e) (λ i x e. named (suc i) x e) small,
  )

pub each_named : {P O R : Type 0} (contents : List (Content P O R)) → EachPlace (λ place (content : Content P O R). names (numbers_of contents) content.number ≡ true) contents
each_named contents k content e = named_at contents k content e

-- the seat after a draw at this word, and after its cells were told

pub mark_due : {P O R : Type 0} (word : ℕ) (v : PassView P O R) (content : Content P O R) (entry : Entry O R) (me : Seated P O R) → IsSeatOf me (took steps.Draw word 0 (draws_at (content ∷ []) entry v))
    → HasSmallStamp (draws_at (content ∷ []) entry v) → IsHeld v.notes content → IsDue (pass_in me.0).notes content.number content.closed entry.stamp
mark_due {O} {R} word v content entry me is small held =
    subst (λ (m : Seated _ O R). IsDue (pass_in m.0).notes content.number content.closed entry.stamp) (sym is)
    (due_told (content.number ∷ []) entry (part_in (content ∷ [])) v.notes content held (named_at (content ∷ []) 0 content refl) small)

pub all_due : {P O R : Type 0} (word : ℕ) (v : PassView P O R) (contents : List (Content P O R)) (entry : Entry O R) (me : Seated P O R) → IsSeatOf me (took steps.Draw word 0 (draws_at contents entry v))
    → HasSmallStamp (draws_at contents entry v) → AreHeld v.notes contents → AreDue (pass_in me.0).notes 0 false entry.stamp contents
all_due {O} {R} word v contents entry me is small held =
    subst (λ (m : Seated _ O R). AreDue (pass_in m.0).notes 0 false entry.stamp contents) (sym is)
    (all_due_told (numbers_of contents) entry (part_in contents) v.notes contents held (each_named contents) small)

pub view_back : {P O R : Type 0} (word : ℕ) (v : PassView P O R) (contents : List (Content P O R)) (entry : Entry O R) (me seated : Seated P O R) → IsSeatOf me (took steps.Draw word 0 (draws_at contents entry v))
    → (cells : List ℕ) → IsSeatOf seated (untold_view cells (pass_in me.0)) → untold_view (numbers_of contents) (pass_in seated.0) ≡ pass_in me.0
view_back {O} {R} word v contents entry me seated is cells told =
    ap (λ (m : Seated _ O R). untold_view (numbers_of contents) (pass_in m.0)) told
    ∙ ap (λ (m : Seated _ O R). untold_view (numbers_of contents) (pass_in m.0)) is ∙ sym (ap (λ (m : Seated _ O R). pass_in m.0) is)

-- the entry of a call, field by field
pub call_entry : {P O R : Type 0} (v : PassView P O R) (contents : List (Content P O R)) (op : O) (reply : R) (stamp caller index object incarnation cell proc : ℕ) (generation : Option ℕ)
    → stamp ≡ stamp_next v (numbers_of contents) → caller ≡ v.number → index ≡ length v.taker.mine → object ≡ object_of v.visitor.place → incarnation ≡ row_of v.visitor.place
    → cell ≡ first_cell (numbers_of contents) → proc ≡ v.turn.proc → generation ≡ v.turn.active
    → record { stamp = stamp; caller = caller; index = index; object = object; incarnation = incarnation; cell = cell; act = Call op; answer = Replied reply; proc = proc; generation = generation }
    ≡ entry_at contents op reply v
call_entry v contents op reply stamp caller index object incarnation cell proc generation e1 e2 e3 e4 e5 e6 e7 e8 = λ i. record {
  stamp = e1 i;
  caller = e2 i;
  index = e3 i;
  object = e4 i;
  incarnation = e5 i;
  cell = e6 i;
  act = Call op;
  answer = Replied reply;
  proc = e7 i;
  generation = e8 i;
}

pub stamp_held : {P O R : Type 0} (v : PassView P O R) (contents : List (Content P O R)) (clock stamp last : ℕ) → AreHeld v.notes contents → clock ≡ v.taker.clock
    → last ≡ last_told contents → stamp ≡ max clock last + 1 → stamp ≡ stamp_next v (numbers_of contents)
stamp_held v contents clock stamp last held clock_is last_is is = is ∙ (λ i. max (clock_is i) ((last_is ∙ last_held v.notes contents held) i) + 1)
