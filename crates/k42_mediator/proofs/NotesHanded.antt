-- What a pass has noted of cells as it hands a row on.
use Rattle.std.proofs.Common.{◌≡◌, ℕ, zero, suc, Bool, true, false, not, ◌||◌, cond, eqb, List, [], ◌∷◌, ◌++◌, Option, Some, None, refl, sym, ap, ◌∙◌}
use Rattle.std.specs.List.{slice_get}
use Rattle.std.specs.Prelude.{map}
use Rattle.std.proofs.lemmas.Bool.{eqb-true, eq-eqb, and_parts}
use Rattle.std.proofs.lemmas.Option.{same_Some}
use Rattle.k42_kinds.specs.declared.entry.Entry.{Entry}
use Rattle.turn_core.specs.Events.{caller_drawn}
use Rattle.turn_core.specs.Names.{names, names_once}
use Rattle.k42_board.specs.Cells.{cells_noted}
use Rattle.k42_board.specs.Drawing.{part_noted, part_in, numbers_of, handed_note}
use Rattle.k42_board.specs.Handing.{handed_at}
use Rattle.k42_board.specs.declared.cell.Content.{Content}
use Rattle.k42_board.specs.declared.view.Note.{Note}
use Rattle.k42_board.specs.declared.view.PassView.{PassView}
use Rattle.k42_mediator.specs.Taken.{released}
use Rattle.k42_mediator.proofs.GivenBack.{cell_in}
use Rattle.k42_mediator.proofs.Remaining.{names_more, remaining_mapped}

module _ {P O R : Type 0} (from onto : List ℕ) (entry : Entry O R) (fresh : ℕ → Option P) where
  abbrev handed : Note P O R → Note P O R
  handed note = handed_note from onto entry fresh note

  abbrev closing : Note P O R → Note P O R
  closing note = record note { closed = true; part = fresh note.cell }

  abbrev beginning : Note P O R → Note P O R
  beginning note = record note { closed = false; history = entry ∷ []; part = fresh note.cell }

  pub cell_same : (note : Note P O R) → (handed note).cell ≡ note.cell
  cell_same note = go (names from note.cell) (names onto note.cell) where
    go : (a b : Bool) → (cond a (closing note) (cond b (beginning note) note)).cell ≡ note.cell
    go true b = refl
    go false true = refl
    go false false = refl

  both_false : (a b : Bool) → a || b ≡ false → (a ≡ false) × (b ≡ false)
  both_false false b e = (refl, e)
  both_false true b e = absurd (cc)

  -- the notes of other cells stay
  pub other_same : (note : Note P O R) → names (from ++ onto) note.cell ≡ false → handed note ≡ note
  other_same note e =
      let parts = both_false (names from note.cell) (names onto note.cell) (sym (names_more from onto note.cell) ∙ e) in
      ap (λ a. cond a (closing note) (cond (names onto note.cell) (beginning note) note)) parts.0 ∙ ap (λ b. cond b (beginning note) note) parts.1

  part_now : (note : Note P O R) → names (from ++ onto) note.cell ≡ true → (handed note).part ≡ fresh note.cell
  part_now note e = go (names from note.cell) (names onto note.cell) (sym (names_more from onto note.cell) ∙ e) where
    go : (a b : Bool) → a || b ≡ true → (cond a (closing note) (cond b (beginning note) note)).part ≡ fresh note.cell
    go true b e' = refl
    go false true e' = refl
    go false false e' = absurd (cc)

  pub handed_part : (notes : List (Note P O R)) (n : ℕ) → names (cells_noted notes) n ≡ true → names (from ++ onto) n ≡ true
      → part_noted (map (handed_note from onto entry fresh) notes) n ≡ fresh n
  handed_part [] n there named = absurd (cc)
  handed_part (note ∷ notes) n there named =
      ap (λ m. cond (eqb m n) (handed note).part (part_noted (map (handed_note from onto entry fresh) notes) n)) (cell_same note)
      ∙ go (eqb note.cell n) refl there (λ more. handed_part notes n more named)
    where
      go : (b : Bool) → eqb note.cell n ≡ b → b || names (cells_noted notes) n ≡ true
          → (names (cells_noted notes) n ≡ true → part_noted (map (handed_note from onto entry fresh) notes) n ≡ fresh n)
          → cond (eqb note.cell n) (handed note).part (part_noted (map (handed_note from onto entry fresh) notes) n) ≡ fresh n
      go true same there' rest =
          let here = eqb-true note.cell n same in
          ap (λ b. cond b (handed note).part (part_noted (map (handed_note from onto entry fresh) notes) n)) same
          ∙ part_now note (ap (names (from ++ onto)) here ∙ named) ∙ ap fresh here
      go false apart there' rest =
          ap (λ b. cond b (handed note).part (part_noted (map (handed_note from onto entry fresh) notes) n)) apart ∙ rest there'

-- the pass that gives its cells back after the hand
pub released_handed : {P O R : Type 0} (from onto : List (Content P O R)) (entry : Entry O R) (tag : ℕ) (v : PassView P O R)
    → released (numbers_of from ++ numbers_of onto) (handed_at from onto entry tag v)
    ≡ record (released (numbers_of from ++ numbers_of onto) v) {
      taker = caller_drawn entry (released (numbers_of from ++ numbers_of onto) v).taker;
      found = None;
      handed = Some tag;
      untold = [];
    }
released_handed from onto entry tag v =
    let cells = numbers_of from ++ numbers_of onto in let fresh = part_in (from ++ onto) in
    λ i. record (released cells v) {
      taker = caller_drawn entry (released cells v).taker;
      found = None;
      handed = Some tag;
      untold = [];
      notes =
          remaining_mapped cell_in cells (handed_note (numbers_of from) (numbers_of onto) entry fresh)
          (cell_same (numbers_of from) (numbers_of onto) entry fresh) (other_same (numbers_of from) (numbers_of onto) entry fresh) v.notes i;
    }

not_true : (b : Bool) → not b ≡ true → b ≡ false
not_true false e = refl
not_true true e = absurd (cc)

-- of cells that are named once each number leads to its part
pub part_at_once : {P O R : Type 0} (contents : List (Content P O R)) (k : ℕ) (content : Content P O R) → names_once (numbers_of contents) ≡ true
    → slice_get contents k ≡ Some content → part_in contents content.number ≡ content.part
part_at_once [] k content once e = absurd (cc)
part_at_once {O} {R} (x ∷ contents) zero content once e =
    let same = same_Some x content e in
    ap (λ (z : Content _ O R). part_in (x ∷ contents) z.number) (sym same) ∙ ap (λ b. cond b x.part (part_in contents x.number)) (eq-eqb x.number x.number refl)
    ∙ ap (λ (z : Content _ O R). z.part) same
part_at_once {P = P} {O} {R} (x ∷ contents) (suc k) content once e =
    let parts = and_parts (not (names (numbers_of contents) x.number)) (names_once (numbers_of contents)) once in
    let apart : eqb x.number content.number ≡ false = unlike contents k (not_true (names (numbers_of contents) x.number) parts.0) e in
    ap (λ b. cond b x.part (part_in contents content.number)) apart ∙ part_at_once contents k content parts.1 e
  where
    turned : (m n : ℕ) (b : Bool) → eqb m n ≡ b → eqb n m ≡ false → b ≡ false
    turned m n false e' not' = refl
    turned m n true e' not' = absurd (let same = eq-eqb n m (sym (eqb-true m n e')) in cc)

    or_parts : (a b : Bool) → a || b ≡ false → (a ≡ false) × (b ≡ false)
    or_parts false b e' = (refl, e')
    or_parts true b e' = absurd (cc)

    unlike : (ys : List (Content P O R)) (j : ℕ) → names (numbers_of ys) x.number ≡ false → slice_get ys j ≡ Some content → eqb x.number content.number ≡ false
    unlike [] j none at = absurd (cc)
    unlike (y ∷ ys) zero none at =
        let first = (or_parts (eqb y.number x.number) (names (numbers_of ys) x.number) none).0 in
        ap (eqb x.number) (ap (λ (z : Content _ O R). z.number) (sym (same_Some y content at))) ∙ turned x.number y.number (eqb x.number y.number) refl first
    unlike (y ∷ ys) (suc j) none at = unlike ys j (or_parts (eqb y.number x.number) (names (numbers_of ys) x.number) none).1 at
