-- A pass that moves the state between the cells of two rows: what it may do with them.
use Rattle.std.proofs.Common.{◌≡◌, ◌⊎◌, ⊎_elim, inl, inr, ℕ, zero, suc, ◌+◌, ◌<◌, ◌≤◌, Bool, true, false, ◌||◌, List, [], ◌∷◌, ◌++◌, Option, Some, None, length, take, drop, refl, sym, ap, ◌∙◌, subst, arith}
use Rattle.std.specs.List.{slice_get}
use Rattle.std.specs.Option.{unwrap_or}
use Rattle.std.proofs.Math.Seq.{take-append_seam, drop-append_seam, drop-length, take-length}
use Rattle.std.proofs.lemmas.List.{length-map, length-append, take-map, drop-map, take-append-drop, append-nil}
use Rattle.k42_limits.specs.declared.TheConstants.{PASS_ENTRIES}
use Rattle.k42_shapes.specs.Shapes.{cells_of}
use Rattle.k42_shapes.proofs.ShapeLaws.{few_cells}
use Rattle.k42_kinds.specs.Rows.{Ways, made_from, part_at}
use Rattle.k42_kinds.specs.declared.entry.Answer.TheVariants.{Swapped}
use Rattle.phase_core.specs.declared.caller.SwapAt.TheVariants.{Moved}
use Rattle.turn_core.specs.Names.{names}
use Rattle.k42_stamp.specs.Laws.{AreLaws}
use Rattle.k42_stamp.specs.Layouts.{Layouts, IsKnown, IsLive, shape_of}
use Rattle.k42_kinds.specs.LayoutLaws.{Agree}
use Rattle.k42_joined.specs.Numbers.{cell_of, row_cells}
use Rattle.k42_joined.proofs.CellNumbers.{named_in_row}
use Rattle.k42_board.specs.Cells.{cells_noted}
use Rattle.k42_board.specs.Drawing.{AreHeld, AreTold, HaveParts, KeepsPart, MayHandOn, numbers_of, part_noted, part_due, parts_due}
use Rattle.k42_board.specs.Parts.{IsPart}
use Rattle.k42_board.specs.Steps.{Always}
use Rattle.k42_board.specs.Taking.{CELLS, IsRowNoted, AreRowsNoted}
use Rattle.k42_board.specs.Values.{layout_in, incarnation_in}
use Rattle.k42_board.specs.Views.{shapes_at, word_begun}
use Rattle.k42_board.specs.declared.cell.Content.{Content}
use Rattle.k42_board.specs.declared.view.Note.{Note}
use Rattle.k42_board.specs.declared.view.PassView.{PassView}
use Rattle.k42_board.proofs.Noted.{each_named}
use Rattle.k42_board.proofs.PartLaws.{AreOneWay, empty_moved_always}
use Rattle.k42_board.proofs.RowCells.{place_in_row}
use Rattle.k42_rule.proofs.HandedNotes.{numbers_more}
use Rattle.k42_rule.proofs.PartsDue.{first_note, parts_whole}
use Rattle.k42_mediator.specs.Parts.{parts_from, IsKept, AreKept, filled}
use Rattle.k42_mediator.specs.Taken.{AreTaken, IsAlike, MayPutBack, MayPutAllBack}
use Rattle.k42_mediator.proofs.GivenBack.{held_due}
use Rattle.k42_mediator.proofs.PartsMoved.{take_twice}
use Rattle.k42_mediator.proofs.Remaining.{names_more}
use Rattle.k42_mediator.proofs.RowMoved.{length_made, take_made, at_of, in_take, in_drop, WasKept, kept_at, kept_numbers, kept_held, filled_numbers, filled_parts, filled_held, parts_noted}

-- two rows whose cells a pass has taken
pub record HasRows
    {S L P O R : Type 0} (F : Layouts S L P O R) (declared : List L) (v : PassView P O R) (o i : ℕ) (cells : List (Content P O R)) (layout : L)
    : Type 0 where
  pub moved : v.visitor.swap ≡ Moved o
  pub row : i ≡ incarnation_in (word_begun v.last)
  pub unhanded : v.handed ≡ None
  pub few : F.procs ≤ 8
  pub object : o < 16
  pub numbers : numbers_of cells ≡ row_cells F.procs o i ++ row_cells F.procs o (i + 1)
  pub holds : v.taker.held ≡ numbers_of cells
  pub taken : AreTaken v.notes cells
  pub rows : AreRowsNoted F declared v
  pub declaration : L
  pub declares : slice_get declared o ≡ Some declaration
  pub same : F.object_of layout ≡ F.object_of declaration
  pub told : shapes_at v o ≡ F.shapes_of declaration
  pub tagged : F.tag_of layout ≡ layout_in (word_begun v.last)

module _ {S L P O R : Type 0} (F : Layouts S L P O R) (laws : AreLaws F) (declared : List L)
    (agrees : (l m : L) → F.object_of l ≡ F.object_of m → F.tag_of l ≡ F.tag_of m
    → Agree (F.ways_of l) (F.ways_of m) (F.Whole l) (F.Whole m) (F.Serves l) (F.Serves m))
    (v : PassView P O R) (o i : ℕ) (cells : List (Content P O R)) (layout : L) (has : HasRows F declared v o i cells layout) where
  abbrev procs : ℕ
  procs = F.procs

  abbrev many : ℕ
  many = cells_of (shape_of F layout) procs

  abbrev ways : Ways S P O R
  ways = F.ways_of layout

  one_way : AreOneWay F
  one_way l m same tag = (agrees l m same tag).ways

  pub live : IsLive F layout
  live =
      let is = (has.rows.moved o has.moved has.unhanded).1 in let tag = has.tagged in
      let many = ap length (has.told ∙ sym (laws.alike layout has.declaration has.same)) in omega (arith, is, tag, many)

  pub many_few : many ≤ procs
  many_few = few_cells (shape_of F layout) procs laws.some

  pub long : length cells ≡ procs + procs
  long =
      sym (length-map cells (λ (content : Content P O R). content.number)) ∙ ap length has.numbers ∙ length-append (row_cells procs o i) (row_cells procs o (i + 1))
      ∙ (λ j. length_made (cell_of o i) 0 procs j + length_made (cell_of o (i + 1)) 0 procs j)

  row_long : (j : ℕ) → length (row_cells procs o j) ≡ procs
  row_long j = length_made (cell_of o j) 0 procs

  pub old_numbers : numbers_of (take procs cells) ≡ row_cells procs o i
  old_numbers =
      sym (take-map (λ (content : Content P O R). content.number) procs cells) ∙ ap (take procs) has.numbers
      ∙ ap (λ k. take k (row_cells procs o i ++ row_cells procs o (i + 1))) (sym (row_long i)) ∙ take-append_seam (row_cells procs o i) (row_cells procs o (i + 1))

  pub new_numbers : numbers_of (drop procs cells) ≡ row_cells procs o (i + 1)
  new_numbers =
      sym (drop-map (λ (content : Content P O R). content.number) procs cells) ∙ ap (drop procs) has.numbers
      ∙ ap (λ k. drop k (row_cells procs o i ++ row_cells procs o (i + 1))) (sym (row_long i)) ∙ drop-append_seam (row_cells procs o i) (row_cells procs o (i + 1))

  own_numbers : numbers_of (take many cells) ≡ made_from (cell_of o i) 0 many
  own_numbers =
      ap numbers_of (sym (take_twice many procs cells many_few)) ∙ sym (take-map (λ (content : Content P O R). content.number) many (take procs cells))
      ∙ ap (take many) old_numbers ∙ take_made (cell_of o i) 0 procs many many_few

  abbrev due : List P
  due = parts_due ways procs v.notes o i (shape_of F layout)

  -- the parts that stand in the cells are those that are due
  pub parts_are : parts_from ways procs 0 (take many cells) ≡ due
  parts_are = parts_noted ways procs v o i 0 many (take many cells) own_numbers (λ k x e. has.taken k x (in_take many cells k x e))

  at_place : (p : ℕ) → p < procs → (content : Content P O R) × (slice_get cells p ≡ Some content) × (content.number ≡ cell_of o i p)
  at_place p lt =
      let in_row = at_of (take procs cells) p (let all = sym (length-map (take procs cells) (λ (content : Content P O R). content.number)) ∙ ap length old_numbers ∙ row_long i in omega (arith, all, lt)) in
      let is = place_in_row (take procs cells) procs o i old_numbers has.few p in_row.0 in_row.1 in
      (in_row.0, in_take procs cells p in_row.0 in_row.1, is.0)

  noted_at : (p : ℕ) → p < many → names (cells_noted v.notes) (cell_of o i p) ≡ true
  noted_at p lt =
      let few = many_few in let at = at_place p (omega (arith, lt, few)) in
      ap (names (cells_noted v.notes)) (sym at.2) ∙ (has.taken p at.0 at.1).held.noted

  noted_row : IsRowNoted F declared v.notes o i (F.tag_of layout)
  noted_row =
      subst (λ (z : ℕ × ℕ). IsRowNoted F declared v.notes o z.0 z.1) (λ j. (sym has.row j, sym has.tagged j))
      (has.rows.moved o has.moved has.unhanded).0

  pub whole : F.Whole layout procs (parts_from ways procs 0 (take many cells))
  whole = subst (F.Whole layout procs) (sym parts_are) (parts_whole F laws declared v.notes o i has.declaration layout has.declares has.same noted_row agrees noted_at)

  -- a cell as it was taken is ready to be given back

  named_at : (k : ℕ) (content : Content P O R) → slice_get cells k ≡ Some content → names v.taker.held content.number ≡ true
  named_at k content e = ap (λ held. names held content.number) has.holds ∙ each_named cells k content e

  pub named_small : (n : ℕ) → names (row_cells procs o i ++ row_cells procs o (i + 1)) n ≡ true → n < CELLS
  named_small n named =
      below (names (row_cells procs o i) n) (names (row_cells procs o (i + 1)) n) refl refl
      (sym (names_more (row_cells procs o i) (row_cells procs o (i + 1)) n) ∙ named)
    where
      in_row : (j : ℕ) → names (row_cells procs o j) n ≡ true → n < CELLS
      in_row j named' =
          let is = named_in_row procs o j n named' in let high = is.high in let same = is.same in
          let few = has.few in let object = has.object in omega (arith, high, same, few, object)

      below : (a b : Bool) → names (row_cells procs o i) n ≡ a → names (row_cells procs o (i + 1)) n ≡ b → a || b ≡ true → n < CELLS
      below true b e' f is = in_row i e'
      below false true e' f is = in_row (i + 1) f
      below false false e' f is = absurd (cc)

  number_small : (k : ℕ) (content : Content P O R) → slice_get cells k ≡ Some content → content.number < CELLS
  number_small k content e = named_small content.number (ap (λ ns. names ns content.number) (sym has.numbers) ∙ each_named cells k content e)

  module _ (id : ℕ) where
    pub ready_same : (k : ℕ) (content : Content P O R) → slice_get cells k ≡ Some content → MayPutBack F declared id v content
    ready_same k content at = record {
      cell = number_small k content at;
      holds = named_at k content at;
      held = (has.taken k content at).held;
      due = λ w alike there e. held_due F laws declared id content.number content.part w there (e ∙ sym (has.taken k content at).part);
    }

    -- where nothing was noted the empty part is due
    made_due : (w : PassView P O R) → IsAlike v w → (n p : ℕ) → names (cells_noted w.notes) n ≡ true → part_noted w.notes n ≡ part_noted v.notes n
        → n ≡ cell_of o i p → p < procs → p < many → (own : Option P) → part_noted v.notes n ≡ own
        → Always F declared id w (λ s. IsPart F declared s n (Some (unwrap_or own (ways.empty procs p))))
    made_due w alike n p there e named lt within (Some part) is table r at = held_due F laws declared id n (Some part) w there (e ∙ is) table r at
    made_due w alike n p there e named lt within None is table r at =
        let first = first_note w.notes n there in
        let row : i ≡ incarnation_in (word_begun w.last) = has.row ∙ ap (λ last. incarnation_in (word_begun last)) (sym alike.last) in
        subst (λ m. IsPart F declared r.state m (Some (ways.empty procs p))) first.named
        (empty_moved_always F laws declared id w one_way first.place first.note first.there (sym first.part ∙ e ∙ is) o p
        (ap (λ x. x.swap) alike.visitor ∙ has.moved) (alike.handed ∙ has.unhanded) (first.named ∙ named ∙ ap (λ j. cell_of o j p) row) lt
        has.declaration layout has.declares has.same (has.tagged ∙ ap (λ last. layout_in (word_begun last)) (sym alike.last)) within table r at)

    pub ready_kept : (k : ℕ) (old new : Content P O R) → slice_get cells k ≡ Some old → old.number ≡ cell_of o i k → k < procs → IsKept ways procs many k old new
        → MayPutBack F declared id v new
    ready_kept k old new at named lt is =
        ⊎_elim (λ (e : new ≡ old). subst (MayPutBack F declared id v) (sym e) (ready_same k old at))
        (λ (e : (k < many) × (new ≡ record old { part = Some (unwrap_or old.part (ways.empty procs k)) })).
        let was = ready_same k old at in
        subst (MayPutBack F declared id v) (sym e.1) (record {
          cell = was.cell;
          holds = was.holds;
          held = record { noted = was.held.noted; history = was.held.history; closed = was.held.closed };
          due = λ w alike there same. made_due w alike old.number k there same named lt e.0 old.part (sym (has.taken k old at).part);
        })) is

-- an element of a list stands in one part of it
at_split : {A : Type 0} (n : ℕ) (xs : List A) (k : ℕ) (x : A) → slice_get xs k ≡ Some x
    → ((k < n) × (slice_get (take n xs) k ≡ Some x)) ⊎ ((j : ℕ) × (slice_get (drop n xs) j ≡ Some x))
at_split zero xs k x e = inr (k, e)
at_split (suc n) [] k x e = absurd (cc)
at_split (suc n) (y ∷ xs) zero x e = inl (omega arith, e)
at_split (suc n) (y ∷ xs) (suc k) x e =
    ⊎_elim (λ (is : (k < n) × (slice_get (take n xs) k ≡ Some x)). let lt = is.0 in inl (omega (arith, lt), is.1)) (λ is. inr is) (at_split n xs k x e)

part_made : {P : Type 0} (f : ℕ → P) (first many k : ℕ) → k < many → part_at (made_from f first many) k ≡ Some (f (first + k))
part_made f first zero k lt = absurd (omega (arith, lt))
part_made f first (suc many) zero lt = ap (λ j. Some (f j)) (omega arith)
part_made f first (suc many) (suc k) lt = part_made f (suc first) many k (omega (arith, lt)) ∙ ap (λ j. Some (f j)) (omega arith)

-- the cells once the state was moved between them, or not
module _ {S L P O R : Type 0} (F : Layouts S L P O R) (laws : AreLaws F) (declared : List L)
    (agrees : (l m : L) → F.object_of l ≡ F.object_of m → F.tag_of l ≡ F.tag_of m
    → Agree (F.ways_of l) (F.ways_of m) (F.Whole l) (F.Whole m) (F.Serves l) (F.Serves m))
    (v : PassView P O R) (o i : ℕ) (cells : List (Content P O R)) (layout : L) (has : HasRows F declared v o i cells layout)
    (news : List (Content P O R)) (kept : AreKept (F.ways_of layout) F.procs (cells_of (shape_of F layout) F.procs) 0 (take F.procs cells) (take F.procs news)) where
  pub from_numbers : numbers_of (take F.procs news) ≡ row_cells F.procs o i
  from_numbers =
      kept_numbers (F.ways_of layout) F.procs (cells_of (shape_of F layout) F.procs) 0 (take F.procs cells) (take F.procs news) kept
      ∙ old_numbers F laws declared agrees v o i cells layout has

  was : (k : ℕ) (new : Content P O R) → slice_get (take F.procs news) k ≡ Some new
      → WasKept (F.ways_of layout) F.procs (cells_of (shape_of F layout) F.procs) k (take F.procs cells) k new
  was k new at =
      subst (λ p. WasKept (F.ways_of layout) F.procs (cells_of (shape_of F layout) F.procs) p (take F.procs cells) k new) (none k)
      (kept_at (F.ways_of layout) F.procs (cells_of (shape_of F layout) F.procs) 0 (take F.procs cells) (take F.procs news) k new kept at)
    where
      none : (k : ℕ) → 0 + k ≡ k
      none k = omega arith

  -- without memory they are given back
  pub ready_again : (id : ℕ) → drop F.procs news ≡ drop F.procs cells → MayPutAllBack F declared id v news
  ready_again id same k new at =
      ⊎_elim
      (λ (is : (k < F.procs) × (slice_get (take F.procs news) k ≡ Some new)).
      let old = was k new is.1 in
      let row = place_in_row (take F.procs cells) F.procs o i (old_numbers F laws declared agrees v o i cells layout has) has.few k old.old old.at in
      ready_kept F laws declared agrees v o i cells layout has id k old.old new (in_take F.procs cells k old.old old.at) row.0 is.0 old.kept)
      (λ (is : (j : ℕ) × (slice_get (drop F.procs news) j ≡ Some new)).
      ready_same F laws declared agrees v o i cells layout has id (F.procs + is.0) new
      (in_drop F.procs cells is.0 new (ap (λ xs. slice_get xs is.0) (sym same) ∙ is.1)))
      (at_split F.procs news k new at)

  -- else they may be handed on
  pub may_hand : (to : L) → F.object_of to ≡ F.object_of has.declaration → IsKnown F to → length v.taker.mine < PASS_ENTRIES
      → drop F.procs news
      ≡ filled ((F.ways_of to).imported F.procs (F.admitted to ((F.ways_of layout).combine (parts_from (F.ways_of layout) F.procs 0 (take (cells_of (shape_of F layout) F.procs) cells)))))
      (drop F.procs cells)
      → MayHandOn F declared (take F.procs news) (drop F.procs news) to (Swapped (i + 1)) v
  may_hand to kind known few full =
      subst (λ (j : ℕ). MayHandOn F declared (take F.procs news) (drop F.procs news) to (Swapped (i + 1)) v) has.row
      (record {
        object = o;
        moved = has.moved;
        once = has.unhanded;
        declaration = has.declaration;
        declares = has.declares;
        kind = kind;
        known = known;
        layout = layout;
        same = has.same;
        tagged = has.tagged;
        answer_is = ap (λ j. Swapped (j + 1)) has.row;
        closes = from_numbers ∙ ap (row_cells F.procs o) has.row;
        begins =
            ap numbers_of full ∙ filled_numbers imported (drop F.procs cells) ∙ new_numbers F laws declared agrees v o i cells layout has
            ∙ ap (λ j. row_cells F.procs o (j + 1)) has.row;
        held_from = λ k new at.
            let old = was k new at in
            kept_held (F.ways_of layout) F.procs (cells_of (shape_of F layout) F.procs) k old.old new v old.kept (has.taken k old.old (in_take F.procs cells k old.old old.at)).held;
        held_onto = subst (AreHeld v.notes) (sym full) (filled_held imported (drop F.procs cells) v (λ k x at. (has.taken (F.procs + k) x (in_drop F.procs cells k x at)).held));
        kept = λ k new at. subst (λ j. KeepsPart F declared v.notes (parts_due (F.ways_of layout) F.procs v.notes o j (shape_of F layout)) k new) has.row (keeps k new at);
        imported =
            subst (λ (j : ℕ). HaveParts ((F.ways_of to).imported F.procs (F.admitted to ((F.ways_of layout).combine (parts_due (F.ways_of layout) F.procs v.notes o j (shape_of F layout))))) (drop F.procs news)) has.row
            (subst (λ ps. HaveParts ((F.ways_of to).imported F.procs (F.admitted to ((F.ways_of layout).combine ps))) (drop F.procs news)) (parts_are F laws declared agrees v o i cells layout has)
            (subst (HaveParts imported) (sym full) (filled_parts imported (drop F.procs cells))));
        few = few;
      })
    where
      imported : List P
      imported = (F.ways_of to).imported F.procs (F.admitted to ((F.ways_of layout).combine (parts_from (F.ways_of layout) F.procs 0 (take (cells_of (shape_of F layout) F.procs) cells))))

      keeps : (k : ℕ) (new : Content P O R) → slice_get (take F.procs news) k ≡ Some new
          → KeepsPart F declared v.notes (parts_due (F.ways_of layout) F.procs v.notes o i (shape_of F layout)) k new
      keeps k new at =
          let old = was k new at in let part = (has.taken k old.old (in_take F.procs cells k old.old old.at)).part in
          let row = place_in_row (take F.procs cells) F.procs o i (old_numbers F laws declared agrees v o i cells layout has) has.few k old.old old.at in
          ⊎_elim (λ (e : new ≡ old.old). inl (ap (λ (z : Content _ O R). z.part) e ∙ part ∙ ap (λ (z : Content _ O R). part_noted v.notes z.number) (sym e)))
          (λ (e : (k < cells_of (shape_of F layout) F.procs) × (new ≡ record old.old { part = Some (unwrap_or old.old.part ((F.ways_of layout).empty F.procs k)) })).
          inr (ap (λ (z : Content _ O R). z.part) e.1 ∙ ap (λ own. Some (unwrap_or own ((F.ways_of layout).empty F.procs k))) (part ∙ ap (part_noted v.notes) row.0)
          ∙ sym (part_made (part_due (F.ways_of layout) F.procs v.notes o i) 0 (cells_of (shape_of F layout) F.procs) k e.0 ∙ ap (λ j. Some (part_due (F.ways_of layout) F.procs v.notes o i j)) (omega arith))))
          old.kept

-- all numbers are as they were
pub numbers_same : {P O R : Type 0} (procs : ℕ) (cells news : List (Content P O R)) → numbers_of (take procs news) ≡ numbers_of (take procs cells)
    → numbers_of (drop procs news) ≡ numbers_of (drop procs cells) → numbers_of news ≡ numbers_of cells
numbers_same procs cells news front back =
    ap numbers_of (sym (take-append-drop procs news)) ∙ numbers_more (take procs news) (drop procs news) ∙ (λ j. front j ++ back j)
    ∙ sym (numbers_more (take procs cells) (drop procs cells)) ∙ ap numbers_of (take-append-drop procs cells)

pub has_rows : {S L P O R : Type 0} (F : Layouts S L P O R) (declared : List L) (v : PassView P O R) (o i : ℕ) (cells : List (Content P O R)) (layout declaration : L)
    → v.visitor.swap ≡ Moved o → i ≡ incarnation_in (word_begun v.last) → v.handed ≡ None → (many : ℕ) → many ≡ F.procs → many ≤ 8 → o < 16
    → numbers_of cells ≡ row_cells F.procs o i ++ row_cells F.procs o (i + 1) → v.taker.held ≡ numbers_of cells → AreTaken v.notes cells
    → AreRowsNoted F declared v → slice_get declared o ≡ Some declaration → F.object_of layout ≡ F.object_of declaration → shapes_at v o ≡ F.shapes_of declaration
    → (tag : ℕ) → F.tag_of layout ≡ tag → tag ≡ layout_in (word_begun v.last) → HasRows F declared v o i cells layout
has_rows F declared v o i cells layout declaration moved row unhanded many is few object numbers holds taken rows declares same told tag tagged begun = record {
  moved = moved;
  row = row;
  unhanded = unhanded;
  few = subst (λ p. p ≤ 8) is few;
  object = object;
  numbers = numbers;
  holds = holds;
  taken = taken;
  rows = rows;
  declaration = declaration;
  declares = declares;
  same = same;
  told = told;
  tagged = tagged ∙ begun;
}

-- a vector whose slice was written
pub written_back : {A : Type 0} (new items : List A) (len : ℕ) → length new ≡ length items → len ≡ length items
    → take len (new ++ drop (length new) items) ≡ new
written_back new items len many is =
    ap (λ k. take len (new ++ drop k items)) many ∙ ap (λ rest. take len (new ++ rest)) (drop-length items)
    ∙ ap (take len) (append-nil new) ∙ ap (λ k. take k new) (is ∙ sym many) ∙ take-length new

-- what was told has its numbers
pub told_numbers : {P O R : Type 0} (notes : List (Note P O R)) (olds news : List (Content P O R)) → AreTold notes olds news → numbers_of news ≡ numbers_of olds
told_numbers notes [] [] told = refl
told_numbers notes [] (y ∷ news) told = absurd (let long = told.0 in omega (arith, long))
told_numbers notes (x ∷ olds) [] told = absurd (let long = told.0 in omega (arith, long))
told_numbers notes (x ∷ olds) (y ∷ news) told =
    λ j. (told.1 0 x y refl refl).number j
    ∷ told_numbers notes olds news ((let long = told.0 in omega (arith, long)), λ k a b e f. told.1 (suc k) a b e f) j
