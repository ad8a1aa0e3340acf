-- The parts that are due by what a pass has noted are those of the row.
use Rattle.std.proofs.Common.{◌≡◌, ℕ, zero, suc, ◌+◌, ◌<◌, Bool, true, false, ◌||◌, cond, eqb, List, [], ◌∷◌, Option, Some, None, length, refl, sym, ap, ◌∙◌, subst, arith}
use Rattle.std.specs.List.{slice_get}
use Rattle.std.specs.Option.{unwrap_or}
use Rattle.std.proofs.lemmas.Bool.{eqb-true}
use Rattle.std.proofs.lemmas.Option.{same_Some}
use Rattle.std.specs.Prelude.{IsTrue}
use Rattle.k42_stamp.proofs.PartsAfter.{same_shape}
use Rattle.k42_shapes.proofs.ShapeLaws.{few_cells}
use Rattle.k42_shapes.specs.declared.shape.Shape.{Shape}
use Rattle.k42_kinds.specs.declared.entry.Reach.TheVariants.{One}
use Rattle.k42_kinds.specs.LayoutLaws.{Agree, IsReached}
use Rattle.k42_kinds.specs.Rows.{Ways, made_from, part_at, IsWithin}
use Rattle.k42_shapes.specs.Shapes.{cells_of, IsKnownTag}
use Rattle.turn_core.specs.Names.{names}
use Rattle.k42_stamp.specs.Laws.{AreLaws}
use Rattle.k42_stamp.specs.Layouts.{Layouts, IsKnown, shape_of}
use Rattle.k42_joined.specs.Numbers.{cell_of}
use Rattle.k42_board.specs.Cells.{cells_noted}
use Rattle.k42_board.specs.Drawing.{part_noted, history_noted, closed_noted, part_due, parts_due}
use Rattle.k42_board.specs.Parts.{HasDue}
use Rattle.k42_board.specs.Taking.{IsRowNoted}
use Rattle.k42_board.specs.declared.view.Note.{Note}

-- the first note of a cell, which tells its part and its history
pub record IsFirstNote {P O R : Type 0} (notes : List (Note P O R)) (n : ℕ) : Type 0 where
  pub place : ℕ
  pub note : Note P O R
  pub there : slice_get notes place ≡ Some note
  pub named : note.cell ≡ n
  pub part : part_noted notes n ≡ note.part
  pub history : history_noted notes n ≡ note.history
  pub closed : closed_noted notes n ≡ note.closed

pub first_note : {P O R : Type 0} (notes : List (Note P O R)) (n : ℕ) → names (cells_noted notes) n ≡ true → IsFirstNote notes n
first_note [] n e = absurd (cc)
first_note (note ∷ notes) n e = go (eqb note.cell n) refl e (first_note notes n) where
  go : (b : Bool) → eqb note.cell n ≡ b → b || names (cells_noted notes) n ≡ true → (names (cells_noted notes) n ≡ true → IsFirstNote notes n)
      → IsFirstNote (note ∷ notes) n
  go true same e rest' = record {
    place = 0;
    note = note;
    there = refl;
    named = eqb-true note.cell n same;
    part = ap (λ b. cond b note.part (part_noted notes n)) same;
    history = ap (λ b. cond b note.history (history_noted notes n)) same;
    closed = ap (λ b. cond b note.closed (closed_noted notes n)) same;
  }
  go false apart e rest' =
      let rest = rest' e in
      record {
        place = suc rest.place;
        note = rest.note;
        there = rest.there;
        named = rest.named;
        part = ap (λ b. cond b note.part (part_noted notes n)) apart ∙ rest.part;
        history = ap (λ b. cond b note.history (history_noted notes n)) apart ∙ rest.history;
        closed = ap (λ b. cond b note.closed (closed_noted notes n)) apart ∙ rest.closed;
      }

-- what is due of a place that the row has
due_is : {S P O R : Type 0} (ways : Ways S P O R) (procs p : ℕ) (own due : Option P) → (due ≡ None → ⊥) → HasDue ways procs p own due
    → due ≡ Some (unwrap_or own (ways.empty procs p))
due_is ways procs p (Some own) (Some due) there is = ap Some (sym is)
due_is ways procs p None (Some due) there is = ap Some is
due_is ways procs p own None there is = absurd (there refl)

part_there : {P : Type 0} (parts : List P) (p : ℕ) → p < length parts → part_at parts p ≡ None → ⊥
part_there [] p lt e = omega (arith, lt)
part_there (part ∷ parts) zero lt e = cc
part_there (part ∷ parts) (suc p) lt e = part_there parts p (omega (arith, lt)) e

pub due_part : {S P O R : Type 0} (ways : Ways S P O R) (procs : ℕ) (notes : List (Note P O R)) (o i p : ℕ) (row : List P) → p < length row
    → HasDue ways procs p (part_noted notes (cell_of o i p)) (part_at row p) → part_at row p ≡ Some (part_due ways procs notes o i p)
due_part ways procs notes o i p row lt is =
    due_is ways procs p (part_noted notes (cell_of o i p)) (part_at row p) (part_there row p lt) is

-- a row of so many parts is made of them
made_of : {P : Type 0} (make : ℕ → P) (first many : ℕ) (row : List P) → length row ≡ many → ((p : ℕ) → p < many → part_at row p ≡ Some (make (first + p)))
    → made_from make first many ≡ row
made_of make first zero [] long each = refl
made_of make first zero (part ∷ row) long each = absurd (omega (arith, long))
made_of make first (suc many) [] long each = absurd (omega (arith, long))
made_of make first (suc many) (part ∷ row) long each =
    let head : part ≡ make first = same_Some part (make first) (each 0 (omega arith) ∙ ap (λ k. Some (make k)) (omega arith)) in
    let rest = made_of make (suc first) many row (omega (arith, long))
    (λ p lt. each (suc p) (omega (arith, lt)) ∙ ap (λ k. Some (make k)) (omega arith)) in
    λ k. sym head k ∷ rest k

module _ {S L P O R : Type 0} (F : Layouts S L P O R) (laws : AreLaws F) (declared : List L) (notes : List (Note P O R)) (o i tag : ℕ) (is : IsRowNoted F declared notes o i tag) where
  pub many_parts : length is.row ≡ cells_of (shape_of F is.layout) F.procs
  many_parts = (laws.stands is.layout is.row is.known is.whole).sized

  -- the part that is due of a noted cell is that of the row
  pub row_part : (p : ℕ) → p < F.procs → p < cells_of (shape_of F is.layout) F.procs → names (cells_noted notes) (cell_of o i p) ≡ true
      → part_at is.row p ≡ Some (part_due (F.ways_of is.layout) F.procs notes o i p)
  row_part p lt within noted =
      let first = first_note notes (cell_of o i p) noted in
      due_part (F.ways_of is.layout) F.procs notes o i p is.row (subst (λ k. p < k) (sym many_parts) within)
      (subst (λ part. HasDue (F.ways_of is.layout) F.procs p part (part_at is.row p)) (sym first.part) (is.parts first.place p first.note lt first.there first.named))

  -- those that are due of a row whose cells are all noted are the row
  pub row_parts : ((p : ℕ) → p < cells_of (shape_of F is.layout) F.procs → p < F.procs) → ((p : ℕ) → p < cells_of (shape_of F is.layout) F.procs → names (cells_noted notes) (cell_of o i p) ≡ true)
      → parts_due (F.ways_of is.layout) F.procs notes o i (shape_of F is.layout) ≡ is.row
  row_parts inside noted =
      made_of (part_due (F.ways_of is.layout) F.procs notes o i) 0 (cells_of (shape_of F is.layout) F.procs) is.row many_parts
      (λ p lt. row_part p (inside p lt) lt (noted p lt) ∙ ap (λ k. Some (part_due (F.ways_of is.layout) F.procs notes o i k)) (omega arith))

-- what a call needs to know of parts: its layout keeps the object as that of the row does
module _ {S L P O R : Type 0} (F : Layouts S L P O R) (laws : AreLaws F) (declared : List L) (notes : List (Note P O R)) (o i : ℕ) (declaration layout : L)
    (declares : slice_get declared o ≡ Some declaration) (kind : F.object_of layout ≡ F.object_of declaration)
    (is : IsRowNoted F declared notes o i (F.tag_of layout))
    (agrees : (l m : L) → F.object_of l ≡ F.object_of m → F.tag_of l ≡ F.tag_of m
    → Agree (F.ways_of l) (F.ways_of m) (F.Whole l) (F.Whole m) (F.Serves l) (F.Serves m)) where
  kinds : F.object_of is.layout ≡ F.object_of layout
  kinds = is.same ∙ ap F.object_of (same_Some is.declaration declaration (sym is.declares ∙ declares)) ∙ sym kind

  one_shape : shape_of F is.layout ≡ shape_of F layout
  one_shape = same_shape F laws is.layout layout kinds is.tagged

  pub agree : Agree (F.ways_of is.layout) (F.ways_of layout) (F.Whole is.layout) (F.Whole layout) (F.Serves is.layout) (F.Serves layout)
  agree =
      agrees is.layout layout kinds is.tagged

  in_few_cells : (p : ℕ) → p < cells_of (shape_of F layout) F.procs → p < F.procs
  in_few_cells p lt = let few = few_cells (shape_of F layout) F.procs laws.some in omega (arith, few, lt)

  -- a place in the row of the one is in that of the other
  in_row : (p : ℕ) → p < cells_of (shape_of F layout) F.procs → p < cells_of (shape_of F is.layout) F.procs
  in_row p lt = subst (λ (shape : Shape). p < cells_of shape F.procs) (sym one_shape) lt

  from_row : (p : ℕ) → p < cells_of (shape_of F is.layout) F.procs → p < cells_of (shape_of F layout) F.procs
  from_row p lt = subst (λ (shape : Shape). p < cells_of shape F.procs) one_shape lt

  -- the part that is due is that of a whole row at its place
  pub part_of_row : (p : ℕ) → p < cells_of (shape_of F layout) F.procs → names (cells_noted notes) (cell_of o i p) ≡ true
      → part_at is.row p ≡ Some (part_due (F.ways_of layout) F.procs notes o i p)
  part_of_row p lt noted =
      subst (λ (ways : Ways S P O R). part_at is.row p ≡ Some (part_due ways F.procs notes o i p)) agree.ways
      (row_part F laws declared notes o i (F.tag_of layout) is p (in_few_cells p lt) (in_row p lt) noted)

  pub part_reached : (op : O) (proc p : ℕ) → proc < F.procs → IsTrue ((F.object_of layout).takes op) → (F.ways_of layout).reach F.procs op proc ≡ One p
      → names (cells_noted notes) (cell_of o i p) ≡ true → IsReached (F.ways_of layout) (F.Whole layout) (part_due (F.ways_of layout) F.procs notes o i p) op
  part_reached op proc p there takes reach noted =
      let known : IsKnown F layout =
      subst (λ (z : List Shape × ℕ). IsKnownTag z.0 z.1) (λ j. (laws.alike is.layout layout kinds j, is.tagged j)) is.known in
      let lt : p < cells_of (shape_of F layout) F.procs =
      subst (λ r. IsWithin (cells_of (shape_of F layout) F.procs) r) reach (laws.reaches layout proc op known there takes) in
      record {
        procs = F.procs;
        proc = proc;
        parts = is.row;
        cell = p;
        known = there;
        whole = agree.whole F.procs is.row is.whole;
        needed = reach;
        there = part_of_row p lt noted;
      }

  -- the parts that are due of a row whose cells are all noted are a whole row
  pub parts_whole : ((p : ℕ) → p < cells_of (shape_of F layout) F.procs → names (cells_noted notes) (cell_of o i p) ≡ true)
      → F.Whole layout F.procs (parts_due (F.ways_of layout) F.procs notes o i (shape_of F layout))
  parts_whole noted =
      subst (F.Whole layout F.procs)
      (sym (row_parts F laws declared notes o i (F.tag_of layout) is (λ p lt. in_few_cells p (from_row p lt)) (λ p lt. noted p (from_row p lt)))
      ∙ (λ j. parts_due (agree.ways j) F.procs notes o i (one_shape j)))
      (agree.whole F.procs is.row is.whole)
