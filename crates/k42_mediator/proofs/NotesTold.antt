-- What a pass has noted of cells, as it takes them and draws at them.
use Rattle.std.proofs.Common.{◌≡◌, ℕ, zero, suc, Bool, true, false, ◌||◌, cond, eqb, List, [], ◌∷◌, ◌++◌, Option, refl, sym, ap, ◌∙◌, subst}
use Rattle.std.proofs.lemmas.Bool.{eqb-true, eq-eqb}
use Rattle.std.proofs.lemmas.Option.{same_Some}
use Rattle.k42_kinds.specs.declared.entry.Entry.{Entry}
use Rattle.k42_places.specs.Places.{EachPlace}
use Rattle.turn_core.specs.Names.{names}
use Rattle.k42_board.specs.Cells.{cells_noted}
use Rattle.k42_board.specs.Drawing.{history_noted, closed_noted, part_noted, numbers_of, told_note, told_notes}
use Rattle.k42_board.specs.Taking.{noted}
use Rattle.k42_board.specs.declared.cell.Content.{Content}
use Rattle.k42_board.specs.declared.view.Note.{Note}
use Rattle.k42_mediator.specs.Taken.{IsTaken, AreTaken}
use Rattle.k42_mediator.proofs.Remaining.{eqb_turned}

-- the parts that are noted after a draw
module _ {P O R : Type 0} (cells : List ℕ) (entry : Entry O R) (fresh : ℕ → Option P) where
  abbrev drawn : Note P O R → Note P O R
  drawn note = told_note cells entry fresh note

  pub cell_same : (note : Note P O R) → (drawn note).cell ≡ note.cell
  cell_same note = go (names cells note.cell) where
    go : (b : Bool) → (cond b (record note { history = note.history ++ entry ∷ []; part = fresh note.cell }) note).cell ≡ note.cell
    go true = refl
    go false = refl

  -- and the notes of other cells stay
  pub other_same : (note : Note P O R) → names cells note.cell ≡ false → drawn note ≡ note
  other_same note e = ap (λ b. cond b (record note { history = note.history ++ entry ∷ []; part = fresh note.cell }) note) e

  part_now : (note : Note P O R) → names cells note.cell ≡ true → (drawn note).part ≡ fresh note.cell
  part_now note e = ap (λ b. (cond b (record note { history = note.history ++ entry ∷ []; part = fresh note.cell }) note).part) e

  pub told_part : (notes : List (Note P O R)) (n : ℕ) → names (cells_noted notes) n ≡ true → names cells n ≡ true
      → part_noted (told_notes cells entry fresh notes) n ≡ fresh n
  told_part [] n there named = absurd (cc)
  told_part (note ∷ notes) n there named =
      ap (λ m. cond (eqb m n) (drawn note).part (part_noted (told_notes cells entry fresh notes) n)) (cell_same note)
      ∙ go (eqb note.cell n) refl there (λ more. told_part notes n more named)
    where
      go : (b : Bool) → eqb note.cell n ≡ b → b || names (cells_noted notes) n ≡ true
          → (names (cells_noted notes) n ≡ true → part_noted (told_notes cells entry fresh notes) n ≡ fresh n)
          → cond (eqb note.cell n) (drawn note).part (part_noted (told_notes cells entry fresh notes) n) ≡ fresh n
      go true same there' rest =
          let here = eqb-true note.cell n same in
          ap (λ b. cond b (drawn note).part (part_noted (told_notes cells entry fresh notes) n)) same
          ∙ part_now note (ap (names cells) here ∙ named) ∙ ap fresh here
      go false apart there' rest =
          ap (λ b. cond b (drawn note).part (part_noted (told_notes cells entry fresh notes) n)) apart ∙ rest there'

-- a cell is noted as it was taken, and those that were noted before stay so

or_right : (a b : Bool) → b ≡ true → a || b ≡ true
or_right true b e = refl
or_right false b e = e

pub taken_now : {P O R : Type 0} (content : Content P O R) (notes : List (Note P O R)) → IsTaken (noted content ∷ notes) content
taken_now content notes =
    let same = eq-eqb content.number content.number refl in
    record {
      held = record {
        noted = rw same refl;
        history = rw same refl;
        closed = rw same refl;
      };
      part = rw same refl;
    }

pub taken_before : {P O R : Type 0} (content other : Content P O R) (notes : List (Note P O R)) → eqb content.number other.number ≡ false → IsTaken notes other
    → IsTaken (noted content ∷ notes) other
taken_before content other notes apart is = record {
  held = record {
    noted = or_right (eqb content.number other.number) (names (cells_noted notes) other.number) is.held.noted;
    history = is.held.history ∙ ap (λ b. cond b (noted content).history (history_noted notes other.number)) (sym apart);
    closed = is.held.closed ∙ ap (λ b. cond b (noted content).closed (closed_noted notes other.number)) (sym apart);
  };
  part = is.part ∙ ap (λ b. cond b (noted content).part (part_noted notes other.number)) (sym apart);
}

-- each of a list and one more
pub each_more : {A : Type 0} (P : A → Type 0) (xs : List A) (x : A) → EachPlace (λ place z. P z) xs → P x → EachPlace (λ place z. P z) (xs ++ x ∷ [])
each_more P [] x each is zero z e = subst P (same_Some x z e) is
each_more P [] x each is (suc i) z e = absurd (cc)
each_more P (y ∷ xs) x each is zero z e = each zero z e
each_more P (y ∷ xs) x each is (suc i) z e = each_more P xs x (λ j w f. each (suc j) w f) is i z e

or_parts : (a b : Bool) → a || b ≡ false → (a ≡ false) × (b ≡ false)
or_parts false b e = (refl, e)
or_parts true b e = absurd (cc)

-- a number that none has is that of none
pub apart_from : {P O R : Type 0} (n : ℕ) (contents : List (Content P O R)) → names (numbers_of contents) n ≡ false
    → EachPlace (λ place (content : Content P O R). eqb n content.number ≡ false) contents
apart_from {O} {R} n (x ∷ contents) none zero content e =
    ap (eqb n) (ap (λ (z : Content _ O R). z.number) (sym (same_Some x content e))) ∙ eqb_turned n x.number ∙ (or_parts (eqb x.number n) (names (numbers_of contents) n) none).0
apart_from n (x ∷ contents) none (suc i) content e =
    apart_from n contents (or_parts (eqb x.number n) (names (numbers_of contents) n) none).1 i content e
apart_from n [] none i content e = absurd (cc)

pub taken_more : {P O R : Type 0} (content : Content P O R) (notes : List (Note P O R)) (contents : List (Content P O R)) → names (numbers_of contents) content.number ≡ false
    → AreTaken notes contents → AreTaken (noted content ∷ notes) (contents ++ content ∷ [])
taken_more content notes contents none each =
    each_more (IsTaken (noted content ∷ notes)) contents content
    (λ i other e. taken_before content other notes (apart_from content.number contents none i other e) (each i other e)) (taken_now content notes)
