-- The cells of two rows in one list, the first of which a pass hands on to the second.
use Rattle.std.proofs.Common.{◌≡◌, ℕ, zero, suc, ◌+◌, ◌<◌, ◌≤◌, true, false, List, [], ◌∷◌, ◌++◌, Some, length, take, drop, sym, refl, ap, ◌∙◌, subst, inr, arith}
use Rattle.std.specs.List.{slice_get}
use Rattle.std.specs.Prelude.{max}
use Rattle.std.proofs.lemmas.List.{length-map, length-append, take-append-drop}
use Rattle.std.proofs.lemmas.Option.{slice_get_within}
use Rattle.k42_kinds.specs.Rows.{made_from}
use Rattle.k42_kinds.specs.declared.entry.Answer.{Answer}
use Rattle.k42_kinds.specs.declared.entry.Entry.{Entry}
use Rattle.k42_places.specs.Places.{EachPlace}
use Rattle.turn_core.specs.Names.{names}
use Rattle.k42_stamp.specs.Layouts.{Layouts}
use Rattle.k42_joined.specs.Numbers.{cell_of}
use Rattle.k42_joined.proofs.LocksHand.{apart_row}
use Rattle.k42_joined.proofs.RowsCalls.{some_at}
use Rattle.k42_board.specs.Drawing.{MayHandOn, numbers_of, part_in, last_told, last_noted, stamp_next, AreHeld, AreTold}
use Rattle.k42_board.specs.Cells.{cells_noted}
use Rattle.k42_board.specs.Handing.{handed_at}
use Rattle.k42_board.specs.Seats.{told_by}
use Rattle.k42_board.specs.Values.{incarnation_in}
use Rattle.k42_board.specs.Views.{word_begun}
use Rattle.k42_board.specs.declared.cell.Content.{Content}
use Rattle.k42_board.specs.declared.view.Note.{Note}
use Rattle.k42_board.specs.declared.view.PassView.{PassView}
use Rattle.k42_rule.proofs.HandedNotes.{numbers_more, closed_told, begun_told}
use Rattle.k42_board.proofs.Noted.{last_held, each_named}
use Rattle.k42_board.proofs.RowCells.{place_in_row}

length_made : {A : Type 0} (f : ℕ → A) (first many : ℕ) → length (made_from f first many) ≡ many
length_made f first zero = refl
length_made f first (suc many) = ap suc (length_made f (suc first) many)

held_more : {P O R : Type 0} (notes : List (Note P O R)) (xs ys : List (Content P O R)) → AreHeld notes xs → AreHeld notes ys → AreHeld notes (xs ++ ys)
held_more notes [] ys one two i content e = two i content e
held_more notes (x ∷ xs) ys one two zero content e = one zero content e
held_more notes (x ∷ xs) ys one two (suc i) content e = held_more notes xs ys (λ j z f. one (suc j) z f) two i content e

module _ {S L P O R : Type 0} (F : Layouts S L P O R) (declared : List L) (cells : List (Content P O R)) (to : L) (answer : Answer R) (v : PassView P O R)
    (may : MayHandOn F declared (take F.procs cells) (drop F.procs cells) to answer v) where
  abbrev from : List (Content P O R)
  from = take F.procs cells

  abbrev onto : List (Content P O R)
  onto = drop F.procs cells

  pub many_from : length from ≡ F.procs
  many_from = sym (length-map from (λ (content : Content P O R). content.number)) ∙ ap length may.closes ∙ length_made (cell_of may.object (incarnation_in (word_begun v.last))) 0 F.procs

  pub all_cells : from ++ onto ≡ cells
  all_cells = take-append-drop F.procs cells

  pub within : F.procs ≤ length cells
  within =
      let all = ap length all_cells in let long = length-append from onto in let many = many_from in omega (arith, all, long, many)

  pub all_numbers : numbers_of from ++ numbers_of onto ≡ numbers_of cells
  all_numbers = sym (numbers_more from onto) ∙ ap numbers_of all_cells

  held : AreHeld v.notes cells
  held = subst (AreHeld v.notes) all_cells (held_more v.notes from onto may.held_from may.held_onto)

  pub stamp_is : max v.taker.clock (last_told cells) + 1 ≡ stamp_next v (numbers_of from ++ numbers_of onto)
  stamp_is = λ j. max v.taker.clock ((last_held v.notes cells held ∙ ap (last_noted v.notes) (sym all_numbers)) j) + 1

  pub parted : F.procs ≤ 8 → EachPlace (λ place (content : Content P O R). names (numbers_of from) content.number ≡ false) onto
  parted few place content e =
      let o = may.object in let i = incarnation_in (word_begun v.last) in
      let is = place_in_row onto F.procs o (i + 1) may.begins few place content e in
      ap (names (numbers_of from)) is.0 ∙ ap (λ ns. names ns (cell_of o (i + 1) place)) may.closes
      ∙ apart_row F.procs o i o (i + 1) place few is.1 (inr (λ same. omega (arith, same)))

-- where a cell stands in two lists, one after the other
at_left : {A : Type 0} (xs ys : List A) (k : ℕ) (x : A) → slice_get (xs ++ ys) k ≡ Some x → k < length xs → slice_get xs k ≡ Some x
at_left [] ys k x e less = absurd (omega (arith, less))
at_left (a ∷ xs) ys zero x e less = e
at_left (a ∷ xs) ys (suc k) x e less = at_left xs ys k x e (omega (arith, less))

at_right : {A : Type 0} (xs ys : List A) (k : ℕ) (x : A) → slice_get (xs ++ ys) k ≡ Some x → length xs ≤ k → (j : ℕ) × (slice_get ys j ≡ Some x)
at_right [] ys k x e low = (k, e)
at_right (a ∷ xs) ys zero x e low = absurd (omega (arith, low))
at_right (a ∷ xs) ys (suc k) x e low = at_right xs ys k x e (omega (arith, low))

-- what the cells tell after the hand
module _ {S L P O R : Type 0} (F : Layouts S L P O R) (declared : List L) (cells : List (Content P O R)) (to : L) (answer : Answer R) (v : PassView P O R)
    (may : MayHandOn F declared (take F.procs cells) (drop F.procs cells) to answer v) (entry : Entry O R) (tag : ℕ) (now : List (Content P O R))
    (told : AreTold (handed_at (take F.procs cells) (drop F.procs cells) entry tag v).notes cells now)
    (k : ℕ) (content : Content P O R) (at : slice_get now k ≡ Some content) where
  abbrev closing : List (Content P O R)
  closing = take F.procs cells

  abbrev opening : List (Content P O R)
  opening = drop F.procs cells

  before : (old : Content P O R) × (slice_get (closing ++ opening) k ≡ Some old) × (slice_get cells k ≡ Some old)
  before =
      let lt = slice_get_within now k content at in let long = told.0 in
      let old = some_at cells k (omega (arith, lt, long)) in
      (old.0, ap (λ xs. slice_get xs k) (all_cells F declared cells to answer v may) ∙ old.1, old.1)

  noted : names (cells_noted v.notes) before.0.number ≡ true
  noted = (held F declared cells to answer v may k before.0 before.2).noted

  -- the first ones are closed
  pub row_closed : k < F.procs → content.closed ≡ true
  row_closed less =
      closed_told (numbers_of closing) (numbers_of opening) entry (part_in (closing ++ opening)) v.notes before.0 content (told.1 k before.0 content before.2 at) noted
      (each_named closing k before.0 (at_left closing opening k before.0 before.1 (let many = many_from F declared cells to answer v may in omega (arith, less, many))))

  -- the others are open, and have the entry alone
  pub row_begun : F.procs ≤ 8 → F.procs ≤ k → (content.closed ≡ false) × ((told_by content.badge.views).history ≡ entry ∷ [])
  row_begun few low =
      let there = at_right closing opening k before.0 before.1 (let many = many_from F declared cells to answer v may in omega (arith, low, many)) in
      begun_told (numbers_of closing) (numbers_of opening) entry (part_in (closing ++ opening)) v.notes before.0 content (told.1 k before.0 content before.2 at) noted
      (parted F declared cells to answer v may few there.0 before.0 there.1) (each_named opening there.0 before.0 there.1)
