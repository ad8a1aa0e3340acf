-- What a pass has noted of the cells of a row that it has handed on, and of those of the next.
use Rattle.std.proofs.Common.{◌≡◌, ℕ, suc, ◌≤◌, ◌||◌, ◌&&◌, Bool, true, false, not, cond, eqb, List, [], ◌∷◌, ◌++◌, Option, length, sym, refl, ap, ◌∙◌, subst, arith}
use Rattle.std.specs.Prelude.{map}
use Rattle.std.proofs.lemmas.Bool.{eqb-true, lt-ltb}
use Rattle.k42_kinds.specs.declared.entry.Entry.{Entry}
use Rattle.k42_places.specs.Places.{EachPlace}
use Rattle.turn_core.specs.Names.{names}
use Rattle.turn_core.specs.Stamps.{last_stamp}
use Rattle.k42_board.specs.Cells.{cells_noted}
use Rattle.k42_board.specs.Drawing.{history_noted, closed_noted, numbers_of, part_in, AreHeld, IsTold, handed_note, HasSmallStamp}
use Rattle.k42_board.specs.Handing.{hands_at}
use Rattle.k42_board.specs.Log.{took}
use Rattle.k42_board.specs.Receipts.{IsDue, AreDue, closed_due, last_due}
use Rattle.k42_limits.specs.declared.TheConstants.{LAST_STAMP}
use Rattle.k42_board.specs.Seats.{told_by}
use Rattle.k42_board.specs.Seen.{IsSeatOf}
use Rattle.k42_board.specs.Steps.{Seated}
use Rattle.k42_board.specs.Views.{pass_in}
use Rattle.k42_board.specs.declared.cell.Content.{Content}
use Rattle.k42_board.specs.declared.view.Note.{Note}
use Rattle.k42_board.specs.declared.view.PassView.{PassView}
use Rattle.k42_board.specs.declared.view.StepName.TheVariants as steps
use Rattle.k42_board.proofs.CellsHanded.{each_handed, handed_cells}
use Rattle.k42_board.proofs.Noted.{first_note, each_named}

module _ {P O R : Type 0} (from onto : List ℕ) (entry : Entry O R) (fresh : ℕ → Option P) where
  abbrev becomes : Note P O R → Note P O R
  becomes note = handed_note from onto entry fresh note

  abbrev pub handed_notes : List (Note P O R) → List (Note P O R)
  handed_notes notes = map (handed_note from onto entry fresh) notes

  cell_one : (note : Note P O R) → (becomes note).cell ≡ note.cell
  cell_one note = go (names from note.cell) (names onto note.cell) where
    go : (a b : Bool) → (cond a (record note { closed = true; part = fresh note.cell }) (cond b (record note { closed = false; history = entry ∷ []; part = fresh note.cell }) note)).cell ≡ note.cell
    go true b = refl
    go false true = refl
    go false false = refl

  closed_one : (note : Note P O R) → names from note.cell ≡ true → becomes note ≡ record note { closed = true; part = fresh note.cell }
  closed_one note e = ap (λ a. cond a (record note { closed = true; part = fresh note.cell }) (cond (names onto note.cell) (record note { closed = false; history = entry ∷ []; part = fresh note.cell }) note)) e

  begun_one : (note : Note P O R) → names from note.cell ≡ false → names onto note.cell ≡ true
      → becomes note ≡ record note { closed = false; history = entry ∷ []; part = fresh note.cell }
  begun_one note not e =
      ap (λ a. cond a (record note { closed = true; part = fresh note.cell }) (cond (names onto note.cell) (record note { closed = false; history = entry ∷ []; part = fresh note.cell }) note)) not
      ∙ ap (λ b. cond b (record note { closed = false; history = entry ∷ []; part = fresh note.cell }) note) e

  -- a closed cell keeps its history
  pub closed_history : (notes : List (Note P O R)) (n : ℕ) → names from n ≡ true → history_noted (handed_notes notes) n ≡ history_noted notes n
  closed_history [] n e = refl
  closed_history (note ∷ notes) n e =
      (λ i. cond (eqb (cell_one note i) n) (becomes note).history (closed_history notes n e i)) ∙ go (eqb note.cell n) refl
    where
      go : (b : Bool) → eqb note.cell n ≡ b
          → cond (eqb note.cell n) (becomes note).history (history_noted notes n) ≡ cond (eqb note.cell n) note.history (history_noted notes n)
      go true same =
          let here : names from note.cell ≡ true = ap (names from) (eqb-true note.cell n same) ∙ e in
          ap (λ b. cond b (becomes note).history (history_noted notes n)) same
          ∙ ap (λ (z : Note P O R). z.history) (closed_one note here) ∙ ap (λ b. cond b note.history (history_noted notes n)) (sym same)
      go false apart =
          ap (λ b. cond b (becomes note).history (history_noted notes n)) apart ∙ ap (λ b. cond b note.history (history_noted notes n)) (sym apart)

  pub closed_now : (notes : List (Note P O R)) (n : ℕ) → names (cells_noted notes) n ≡ true → names from n ≡ true → closed_noted (handed_notes notes) n ≡ true
  closed_now notes n noted e =
      let first = first_note (handed_notes notes) n (ap (λ xs. names xs n) (handed_cells from onto entry fresh notes) ∙ noted) in
      let old = each_handed from onto entry fresh notes first.place first.note first.there in
      let cell : old.0.cell ≡ n = sym (cell_one old.0) ∙ ap (λ (z : Note P O R). z.cell) (sym old.2) ∙ first.named in
      first.closed ∙ ap (λ (z : Note P O R). z.closed) (old.2 ∙ closed_one old.0 (ap (names from) cell ∙ e))

  -- a cell whose row begins is open, and has the entry alone
  pub record BeginsRow (notes : List (Note P O R)) (n : ℕ) : Type 0 where
    pub opened : closed_noted (handed_notes notes) n ≡ false
    pub history : history_noted (handed_notes notes) n ≡ entry ∷ []

  pub begun_now : (notes : List (Note P O R)) (n : ℕ) → names (cells_noted notes) n ≡ true → names from n ≡ false → names onto n ≡ true → BeginsRow notes n
  begun_now notes n noted not e =
      let first = first_note (handed_notes notes) n (ap (λ xs. names xs n) (handed_cells from onto entry fresh notes) ∙ noted) in
      let old = each_handed from onto entry fresh notes first.place first.note first.there in
      let cell : old.0.cell ≡ n = sym (cell_one old.0) ∙ ap (λ (z : Note P O R). z.cell) (sym old.2) ∙ first.named in
      let is = old.2 ∙ begun_one old.0 (ap (names from) cell ∙ not) (ap (names onto) cell ∙ e) in
      record { opened = first.closed ∙ ap (λ (z : Note P O R). z.closed) is; history = first.history ∙ ap (λ (z : Note P O R). z.history) is }

  -- what the cells are told

  opens : (b : Bool) → false ≡ closed_due 0 true b
  opens true = refl
  opens false = refl

  onto_due : (notes : List (Note P O R)) (contents : List (Content P O R)) → AreHeld notes contents
      → EachPlace (λ place (content : Content P O R). names from content.number ≡ false) contents
      → EachPlace (λ place (content : Content P O R). names onto content.number ≡ true) contents → entry.stamp ≤ LAST_STAMP
      → AreDue (handed_notes notes) 0 true entry.stamp contents
  onto_due notes [] held apart named small = tt
  onto_due notes (content ∷ contents) held apart named small =
      let begins = begun_now notes content.number (held 0 content refl).noted (apart 0 content refl) (named 0 content refl) in (
        subst (λ b. IsDue (handed_notes notes) content.number b entry.stamp) (opens content.closed) (record {
          noted = ap (λ xs. names xs content.number) (handed_cells from onto entry fresh notes) ∙ (held 0 content refl).noted;
          closed = sym begins.opened;
          last = ap last_stamp (sym begins.history);
          small = small;
        }),
        onto_due notes contents (λ i x e. held (suc i) x e) (λ i x e. apart (suc i) x e) (λ i x e. named (suc i) x e) small,
      )

  closed_first : (more : ℕ) (was : Bool) → true ≡ closed_due (suc more) true was
  closed_first more was = sym (ap (λ b. b || (was && not true)) (lt-ltb 0 (suc more) (omega arith)))

  last_first : (more was stamp : ℕ) → was ≡ last_due (suc more) was stamp
  last_first more was stamp = sym (ap (λ b. cond b was stamp) (lt-ltb 0 (suc more) (omega arith)))

  pub hand_due : (notes : List (Note P O R)) (closes begins : List (Content P O R)) → AreHeld notes closes
      → EachPlace (λ place (content : Content P O R). names from content.number ≡ true) closes → AreHeld notes begins
      → EachPlace (λ place (content : Content P O R). names from content.number ≡ false) begins
      → EachPlace (λ place (content : Content P O R). names onto content.number ≡ true) begins → entry.stamp ≤ LAST_STAMP
      → AreDue (handed_notes notes) (length closes) true entry.stamp (closes ++ begins)
  hand_due notes [] begins held named held' apart named' small = onto_due notes begins held' apart named' small
  hand_due notes (content ∷ closes) begins held named held' apart named' small = (
    record {
      noted = ap (λ xs. names xs content.number) (handed_cells from onto entry fresh notes) ∙ (held 0 content refl).noted;
      closed = sym (closed_first (length closes) content.closed) ∙ sym (closed_now notes content.number (held 0 content refl).noted (named 0 content refl));
      last = sym (last_first (length closes) content.last entry.stamp) ∙ content.told.last ∙ ap last_stamp ((held 0 content refl).history ∙ sym (closed_history notes content.number (named 0 content refl)));
      small = subst (λ z. z ≤ LAST_STAMP) (last_first (length closes) content.last entry.stamp) content.told.small;
    },
    subst (λ more. AreDue (handed_notes notes) more true entry.stamp (closes ++ begins)) (omega arith)
        (hand_due notes closes begins (λ i x e. held (suc i) x e) (λ i x e. named (suc i) x e) held' apart named' small),
  )

-- the numbers of two rows of cells
pub numbers_more : {P O R : Type 0} (from onto : List (Content P O R)) → numbers_of (from ++ onto) ≡ numbers_of from ++ numbers_of onto
numbers_more [] onto = refl
numbers_more (content ∷ from) onto = ap (λ xs. content.number ∷ xs) (numbers_more from onto)

-- the seat after the hand, and once its cells were told

module _ {P O R : Type 0} (v : PassView P O R) (from onto : List (Content P O R)) (entry : Entry O R) (tag : ℕ) where
  pub seat_due : (me : Seated P O R) (word : ℕ) → IsSeatOf me (took steps.Draw word 0 (hands_at from onto entry tag v)) → HasSmallStamp (hands_at from onto entry tag v) → AreHeld v.notes from → AreHeld v.notes onto
      → EachPlace (λ place (content : Content P O R). names (numbers_of from) content.number ≡ false) onto
      → AreDue (pass_in me.0).notes (length from) true entry.stamp (from ++ onto)
  seat_due me word is small held held' apart =
      subst (λ (m : Seated P O R). AreDue (pass_in m.0).notes (length from) true entry.stamp (from ++ onto)) (sym is)
      (hand_due (numbers_of from) (numbers_of onto) entry (part_in (from ++ onto)) v.notes from onto held (each_named from) held' apart (each_named onto) small)

-- the cells once they were told, for those who put them back
module _ {P O R : Type 0} (from onto : List ℕ) (entry : Entry O R) (fresh : ℕ → Option P) (notes : List (Note P O R)) (old new : Content P O R)
    (told : IsTold (handed_notes from onto entry fresh notes) old new) (noted : names (cells_noted notes) old.number ≡ true) where
  pub closed_told : names from old.number ≡ true → new.closed ≡ true
  closed_told e =
      new.told.closed ∙ told.held.closed ∙ ap (closed_noted (handed_notes from onto entry fresh notes)) told.number ∙ closed_now from onto entry fresh notes old.number noted e

  pub begun_told : names from old.number ≡ false → names onto old.number ≡ true → (new.closed ≡ false) × ((told_by new.badge.views).history ≡ entry ∷ [])
  begun_told not e =
      let begins = begun_now from onto entry fresh notes old.number noted not e in (
        new.told.closed ∙ told.held.closed ∙ ap (closed_noted (handed_notes from onto entry fresh notes)) told.number ∙ begins.opened,
        told.held.history ∙ ap (history_noted (handed_notes from onto entry fresh notes)) told.number ∙ begins.history,
      )
