-- What a pass knows of parts: those that are due of cells, and those of whole rows.
use Rattle.std.proofs.Common.{◌≡◌, ℕ, zero, suc, ◌+◌, ◌-◌, ◌*◌, ◌<◌, ◌≤◌, Bool, true, false, eqb, List, [], ◌∷◌, ◌++◌, Option, Some, None, length, refl, sym, ap, ◌∙◌, subst, ⊎_elim, arith}
use Rattle.std.specs.List.{slice_get}
use Rattle.std.proofs.lemmas.Bool.{eqb-true, eq-eqb, lt-ltb}
use Rattle.std.proofs.lemmas.Bool.Decides.{nat_tests}
use Rattle.std.proofs.lemmas.List.{length-append, length-map}
use Rattle.std.proofs.lemmas.Option.{same_Some}
use mathlib.Core.Option.{some}
use lib.ListN.{get_elem?}
use Rattle.k42_shapes.specs.declared.shape.Shape.{Shape}
use Rattle.atomic_table.specs.Table.{State}
use Rattle.k42_kinds.specs.Rows.{Ways, part_at}
use Rattle.k42_shapes.specs.Shapes.{cells_of, IsLiveTag}
use Rattle.phase_core.specs.Plain.{Visitor}
use Rattle.phase_core.specs.Stages.{IsInside, named_by, object_named, is_moved}
use Rattle.phase_core.specs.State.{object_at, visitor_at}
use Rattle.phase_core.specs.declared.caller.SwapAt.TheVariants.{Moved}
use Rattle.phase_core.proofs.InSound.{inside_is_present, moved_is_ready}
use Rattle.k42_stamp.specs.Chains.{Chain, Row, Turn, parts_of}
use Rattle.k42_stamp.specs.Laws.{AreLaws}
use Rattle.k42_stamp.specs.Layouts.{Layouts, shape_of}
use Rattle.k42_stamp.proofs.PartsAfter.{parts_whole, parts_sized, same_shape}
use Rattle.k42_joined.specs.Answers.{is_turned}
use Rattle.k42_joined.specs.Fitting.{HasItsTag}
use Rattle.k42_joined.specs.Locks.{other_life}
use Rattle.k42_joined.specs.Numbers.{cell_of, object_of, place_of}
use Rattle.k42_joined.specs.Plain.{Joined}
use Rattle.k42_joined.specs.Rows.{AreRowsOf, history_in}
use Rattle.k42_joined.specs.State.{many_procs, many_objects, object, incarnation, cell, cell_in, many_hands, is_handed, layouts_of}
use Rattle.k42_joined.proofs.AnswersRows.{RowsAt, rows_at, many_past}
use Rattle.k42_joined.proofs.CellNumbers.{object_of-cell, place_of-cell, cell_there}
use Rattle.k42_joined.proofs.SafeStates.{inside_there, handed_alone, sound_safe}
use Rattle.k42_board.specs.Cells.{Slot}
use Rattle.k42_board.specs.Parts.{row_in, HasDue, IsPart}
use Rattle.k42_board.specs.Rule.{KnowsPass, Rule}
use Rattle.k42_board.specs.Steps.{Always}
use Rattle.k42_board.specs.Taking.{TouchesFreed, IsRowNoted, AreRowsNoted}
use Rattle.k42_board.specs.Values.{layout_in, incarnation_in}
use Rattle.k42_board.specs.Views.{shapes_at, word_begun}
use Rattle.k42_board.specs.declared.view.Note.{Note}
use Rattle.k42_board.specs.declared.view.PassView.{PassView}
use Rattle.k42_board.specs.declared.view.View.{View}
use Rattle.k42_board.specs.declared.view.View.TheVariants.{Crew}
use Rattle.k42_board.proofs.CellsEvents.{note_there}
use Rattle.k42_board.proofs.CellsTouched.{swapped_there, freed}
use Rattle.k42_board.proofs.OnePass.{known}

-- layouts of one object with one tag do the same with parts
abbrev pub AreOneWay : {S L P O R : Type 0} → Layouts S L P O R → Type 0
AreOneWay {S} {L} {P} F = (layout other : L) → F.object_of layout ≡ F.object_of other → F.tag_of layout ≡ F.tag_of other → F.ways_of layout ≡ F.ways_of other

some_part : {P : Type 0} (parts : List P) (place : ℕ) → place < length parts → part_at parts place ≡ None → ⊥
some_part [] place lt e = omega (arith, lt)
some_part (part ∷ parts) zero lt e = cc
some_part (part ∷ parts) (suc place) lt e = some_part parts place (omega (arith, lt)) e

-- where a missing part stands for the empty one, the empty one is due
empty_for_none : {S P O R : Type 0} (ways : Ways S P O R) (procs place : ℕ) (due : Option P) → (due ≡ None → ⊥) → HasDue ways procs place None due
    → HasDue ways procs place (Some (ways.empty procs place)) due
empty_for_none ways procs place (Some due) there is = sym is
empty_for_none ways procs place None there is = there refl

no_second : {L P O R : Type 0} (chain : Chain L P O R) (row : Row L P O R) → length chain.past ≡ 0 → row_in chain 1 ≡ Some row → ⊥
no_second {L} {P} {O} {R} chain row none e = go chain.past refl none where
  go : (past : List (Turn L P O R)) → chain.past ≡ past → length chain.past ≡ 0 → ⊥
  go [] is none' = let found = ap (λ (turns : List (Turn L P O R)). row_in (record chain { past = turns }) 1) (sym is) ∙ e in cc
  go (turn ∷ past) is none' = let long = ap length is in omega (arith, long, none')

first_row : {L P O R : Type 0} (chain : Chain L P O R) (i : ℕ) → i ≡ length chain.past → row_in chain i ≡ Some chain.row
first_row chain i e = let same = eq-eqb i (length chain.past) e in rw same refl

module _ {S L P O R : Type 0} (F : Layouts S L P O R) (laws : AreLaws F) (declared : List L)
    (table : State (Slot P O R) (View P O R)) (r : Rule F declared table) (id : ℕ) (v : PassView P O R)
    (at : get_elem? table.views id ≡ some (Crew (v ∷ []))) where
  abbrev s : Joined L O R
  s = r.state

  abbrev c : ℕ
  c = v.number

  knows : KnowsPass F.tag_of s r.beside id v
  knows = known F declared table r id v at

  within : (p : ℕ) → p < F.procs → p < many_procs s
  within p lt = subst (λ k. p < k) r.sound.cells.rows.told.procs lt

  small : (p : ℕ) → p < F.procs → p < 8
  small p lt = let few = r.sound.cells.locks.many.few_procs in let lt' = within p lt in omega (arith, few, lt')

  -- an object that is there, whose present row was neither handed on nor freed
  pub record IsPresent (o : ℕ) : Type 0 where
    pub named : o < many_objects s
    pub unhanded : is_handed s o ≡ false
    pub kept : (object s o).freed ≤ incarnation s o

  pub inside_present : (o i : ℕ) → IsInside v.visitor.place o i → IsPresent o × (i ≡ incarnation s o)
  inside_present o i inside' =
      let inside : IsInside (visitor_at s.phases c).place o i = subst (λ (x : Visitor). IsInside x.place o i) (sym knows.phases.visitor) inside' in
      let named = inside_there s.phases r.sound.phases c o i knows.there inside in
      let present = inside_is_present s.phases r.sound.phases c o i knows.there inside in
      let kept = (sound_safe F laws declared s r.sound).read_kept c o i knows.there present.0 in
      let same = present.1 in (
        record {
          named = named;
          unhanded = go (is_handed s o) refl named inside;
          kept = omega (arith, kept, same);
        },
        present.1,
      )
    where
      go : (b : Bool) → is_handed s o ≡ b → o < many_objects s → IsInside (visitor_at s.phases c).place o i → b ≡ false
      go false e named inside = refl
      go true e named inside = absurd (handed_alone F laws declared s r.sound c o i knows.there named e inside)

  -- what a pass knows of the object that it moves and has not handed on
  pub record IsMoving (o : ℕ) : Type 0 where
    pub present : IsPresent o
    pub row : incarnation_in (word_begun v.last) ≡ incarnation s o
    pub layout : (object s o).layout ≡ layout_in (word_begun v.last)
    pub live : IsLiveTag (shapes_at v o) (layout_in (word_begun v.last))
    pub freed : (object s o).freed ≡ incarnation s o

  pub moved_present : (o : ℕ) → v.visitor.swap ≡ Moved o → v.handed ≡ None → IsMoving o
  moved_present o swap unhanded' =
      let own : (visitor_at s.phases c).swap ≡ Moved o = ap (λ (x : Visitor). x.swap) knows.phases.visitor ∙ swap in
      let ready = moved_is_ready s.phases r.sound.phases c o knows.there own in
      let turned : v.turned ≡ false = knows.phases.swap.turned ∙ ap (λ z. is_turned z (object_at s.phases (object_named v.visitor.swap))) swap in
      let layout = knows.phases.swap.layout_begun o (ap named_by swap) turned in
      let ready_freed = ready.freed in let alive = ready.alive in
      record {
        present = record {
          named = swapped_there F laws declared table r id v at 0 o (ap named_by swap);
          unhanded = ap (λ z. is_handed s (object_named z)) (sym swap) ∙ knows.trace.unhanded unhanded' (ap is_moved swap);
          kept = omega (arith, ready_freed);
        };
        row = knows.phases.swap.begun o (ap named_by swap) turned;
        layout = sym layout;
        live =
            subst (λ (shapes : List Shape). IsLiveTag shapes (layout_in (word_begun v.last))) (sym (knows.phases.shapes o)) (omega (arith, layout, alive));
        freed = ready.freed;
      }

  module _ (o : ℕ) (is : IsPresent o) where
    at_o : RowsAt F laws declared s r.sound.cells.turns r.sound.cells.locks r.sound.cells.rows r.sound.answers o
    at_o = rows_at F laws declared s r.sound.cells.turns r.sound.cells.locks r.sound.cells.rows r.sound.answers o is.named

    -- as many rows as the incarnation tells were handed on
    hands_are : many_hands s o ≡ incarnation s o
    hands_are =
        let ahead = (r.sound.cells.locks.counted o is.named).ahead in
        ⊎_elim (λ (same : many_hands s o ≡ incarnation s o). same)
        (λ (more : many_hands s o ≡ incarnation s o + 1).
        let yes : is_handed s o ≡ true = lt-ltb (incarnation s o) (many_hands s o) (omega (arith, more)) in
        let no = is.unhanded in absurd (cc))
        ahead

    -- the row of any chain that fits is the present one, with the object's tag
    pub record IsRowNow (declaration : L) (chain : Chain L P O R) : Type 0 where
      pub many : length chain.past ≡ incarnation s o
      pub tagged : F.tag_of chain.row.layout ≡ (object s o).layout

    pub row_now : (declaration : L) (chain : Chain L P O R) → slice_get declared o ≡ Some declaration → AreRowsOf F declaration s o chain → IsRowNow declaration chain
    row_now declaration chain declares rows = record { many = long ∙ hands_are; tagged = tagged chain.row.layout newest } where
      same : declaration ≡ at_o.declaration
      same = same_Some declaration at_o.declaration (sym declares ∙ at_o.declares)

      tagged : HasItsTag F declaration s o
      tagged = subst (λ d. HasItsTag F d s o) (sym same) at_o.has.tagged

      shaped : (object s o).shapes ≡ F.shapes_of declaration
      shaped = at_o.has.shaped ∙ ap F.shapes_of (sym same)

      long : length chain.past ≡ many_hands s o
      long =
          many_past F laws declared s r.sound.cells.turns r.sound.cells.locks r.sound.cells.rows r.sound.answers o declaration chain (record { rows = rows; tagged = tagged; shaped = shaped })

      none_ahead : many_hands s o - incarnation s o ≡ 0
      none_ahead = let are = hands_are in omega (arith, are)

      newest : slice_get (layouts_of s o ++ declaration ∷ []) (many_hands s o - incarnation s o) ≡ Some chain.row.layout
      newest =
          ap (slice_get (layouts_of s o ++ declaration ∷ [])) none_ahead
          ∙ ap (λ (layouts : List L). slice_get layouts 0) (sym rows.layouts)

    -- the cell of the present row at a place has the part of the row
    module _ (n p : ℕ) (here : n ≡ cell_of o (incarnation s o) p) (lt : p < F.procs) where
      object_is : object_of n ≡ o
      object_is = ap object_of here ∙ object_of-cell o (incarnation s o) p (small p lt)

      place_is : place_of n ≡ p
      place_is = ap place_of here ∙ place_of-cell o (incarnation s o) p (small p lt)

      life_is : (cell s n).life ≡ incarnation s o
      life_is = ap (λ m. (cell s m).life) here ∙ (r.sound.cells.locks.lives o p is.named (within p lt)).present.life

      there : n < length s.turns.cells
      there =
          let many = r.sound.cells.locks.many.cells in let named = is.named in let few = small p lt in
          let number : cell_of o (incarnation s o) p < many_objects s * 16 = cell_there (many_objects s) o (incarnation s o) p named few in
          omega (arith, many, number, here)

      pub has_due : (declaration : L) (chain : Chain L P O R) → slice_get declared o ≡ Some declaration → AreRowsOf F declaration s o chain
          → HasDue (F.ways_of chain.row.layout) F.procs p (r.beside.contents.part n) (part_at (parts_of F chain.row) p)
      has_due declaration chain declares rows =
          let now = row_now declaration chain declares rows in
          subst (λ q. HasDue (F.ways_of chain.row.layout) F.procs q (r.beside.contents.part n) (part_at (parts_of F chain.row) q)) place_is
          ((r.parts n there).due declaration chain chain.row (subst (λ q. slice_get declared q ≡ Some declaration) (sym object_is) declares)
          (subst (λ q. AreRowsOf F declaration s q chain) (sym object_is) rows) (first_row chain (cell s n).life (life_is ∙ sym now.many))
          (subst (λ (z : ℕ × ℕ). (object s z.0).freed ≤ z.1) (λ k. (sym object_is k, sym life_is k)) is.kept))

    row_noted : (i : ℕ) → i ≡ incarnation s o → (tag : ℕ) → (object s o).layout ≡ tag → IsRowNoted F declared v.notes o i tag
    row_noted i same tag tagged =
        let fits = at_o.has.rows.fits in
        record {
          declaration = at_o.declaration;
          declares = at_o.declares;
          layout = at_o.chain.row.layout;
          same = fits.row.kind;
          tagged = (row_now at_o.declaration at_o.chain at_o.declares at_o.has.rows).tagged ∙ tagged;
          known = fits.row.known;
          row = parts_of F at_o.chain.row;
          whole = parts_whole F laws at_o.declaration o (history_in s o) at_o.chain fits;
          parts = λ k p note lt e named.
              let here : note.cell ≡ cell_of o (incarnation s o) p = named ∙ ap (λ j. cell_of o j p) same in
              subst (λ part. HasDue (F.ways_of at_o.chain.row.layout) F.procs p part (part_at (parts_of F at_o.chain.row) p)) (knows.cells.notes k note e).part
              (has_due note.cell p here lt at_o.declaration at_o.chain at_o.declares at_o.has.rows);
        }

    -- where nothing is noted of a place that the row has, the empty part is due there
    empty_due : AreOneWay F → (n p : ℕ) → n ≡ cell_of o (incarnation s o) p → p < F.procs → r.beside.contents.part n ≡ None
        → (declaration layout : L) → slice_get declared o ≡ Some declaration → F.object_of layout ≡ F.object_of declaration → F.tag_of layout ≡ (object s o).layout
        → p < cells_of (shape_of F layout) F.procs → IsPart F declared s n (Some ((F.ways_of layout).empty F.procs p))
    empty_due one_way n p here lt none declaration layout declares kind tag place = record {
      due = λ declaration' chain row declares' rows' is_row kept.
          let q = object_is n p here lt in
          let rows : AreRowsOf F declaration' s o chain = subst (λ k. AreRowsOf F declaration' s k chain) q rows' in
          let declares'' : slice_get declared o ≡ Some declaration' = subst (λ k. slice_get declared k ≡ Some declaration') q declares' in
          let now = row_now declaration' chain declares'' rows in
          let first = first_row chain (cell s n).life (life_is n p here lt ∙ sym now.many) in
          let row_is : chain.row ≡ row = same_Some chain.row row (sym first ∙ is_row) in
          let same : declaration ≡ declaration' = same_Some declaration declaration' (sym declares ∙ declares'') in
          let kinds : F.object_of layout ≡ F.object_of chain.row.layout = kind ∙ ap F.object_of same ∙ sym rows.fits.row.kind in
          let ways : F.ways_of layout ≡ F.ways_of chain.row.layout = one_way layout chain.row.layout kinds (tag ∙ sym now.tagged) in
          let sized = parts_sized F laws declaration' o (history_in s o) chain rows.fits in
          let tags : F.tag_of layout ≡ F.tag_of chain.row.layout = tag ∙ sym now.tagged in
          let inside : p < length (parts_of F chain.row) = subst (λ k. p < k) (ap (λ (shape : Shape). cells_of shape F.procs) (same_shape F laws layout chain.row.layout kinds tags) ∙ sym sized) place in
          let old = subst (λ part. HasDue (F.ways_of chain.row.layout) F.procs p part (part_at (parts_of F chain.row) p)) none (has_due n p here lt declaration' chain declares'' rows) in
          let new : HasDue (F.ways_of chain.row.layout) F.procs p (Some ((F.ways_of layout).empty F.procs p)) (part_at (parts_of F chain.row) p) =
          subst (λ (w : Ways S P O R). HasDue (F.ways_of chain.row.layout) F.procs p (Some (w.empty F.procs p)) (part_at (parts_of F chain.row) p)) (sym ways)
          (empty_for_none (F.ways_of chain.row.layout) F.procs p (part_at (parts_of F chain.row) p) (some_part (parts_of F chain.row) p inside) old) in
          subst (λ (z : Row L P O R). HasDue (F.ways_of z.layout) F.procs (place_of n) (Some ((F.ways_of layout).empty F.procs p)) (part_at (parts_of F z) (place_of n))) row_is
          (subst (λ k. HasDue (F.ways_of chain.row.layout) F.procs k (Some ((F.ways_of layout).empty F.procs p)) (part_at (parts_of F chain.row) k)) (sym (place_is n p here lt)) new);
      before = λ ahead.
          let q = object_is n p here lt in let life = life_is n p here lt in let hands = hands_are in
          let hands_n : many_hands s (object_of n) ≡ many_hands s o = ap (many_hands s) q in
          absurd (omega (arith, ahead, life, hands, hands_n));
    }

  -- the noted parts of a row are those of one whole row
  pub rows_noted : AreRowsNoted F declared v
  rows_noted = record {
    inside = λ o i tag inside layout.
        let is = inside_present o i inside in
        row_noted o is.0 i is.1 tag (knows.phases.layout tag o i layout inside);
    moved = λ o swap unhanded.
        let is = moved_present o swap unhanded in
        (row_noted o is.present (incarnation_in (word_begun v.last)) is.row (layout_in (word_begun v.last)) is.layout, is.live);
  }

  -- the part that is noted of a cell is due
  pub noted_due : (place : ℕ) (note : Note P O R) → slice_get v.notes place ≡ Some note → IsPart F declared s note.cell note.part
  noted_due place note e =
      subst (IsPart F declared s note.cell) (knows.cells.notes place note e).part
      (r.parts note.cell (note_there F laws declared table r id v at note.cell place note e refl))

  -- nothing is due of a cell of a row that it has freed
  pub freed_due : (n : ℕ) → TouchesFreed F.procs n v → IsPart F declared s n None
  freed_due n touches = record { due = λ declaration chain row declares rows here kept. absurd (none kept); before = λ ahead. refl } where
    none : (object s (object_of n)).freed ≤ (cell s n).life → ⊥
    none kept =
        let is = freed F laws declared table r id v at n touches in
        let o = touches.object in
        let q : object_of n ≡ o = ap object_of touches.cell ∙ object_of-cell o touches.row touches.place (small touches.place touches.there) in
        let life : (cell s n).life ≡ touches.row = ap (λ m. (cell s m).life) touches.cell ∙ is.life in
        let gone = is.gone in
        let freed_n : (object s (object_of n)).freed ≡ (object s o).freed = ap (λ k. (object s k).freed) q in
        omega (arith, kept, life, gone, freed_n)

  -- nor of a cell of the next row, while the pass moves the object and has not handed it on
  pub next_due : (o p : ℕ) → v.visitor.swap ≡ Moved o → v.handed ≡ None → p < F.procs → IsPart F declared s (cell_of o (incarnation_in (word_begun v.last) + 1) p) None
  next_due o p swap unhanded lt = record { due = λ declaration chain row declares rows here kept. absurd (none (eqb (incarnation s o) 0) refl chain row rows here kept); before = λ ahead. refl } where
    is : IsMoving o
    is = moved_present o swap unhanded

    n : ℕ
    n = cell_of o (incarnation_in (word_begun v.last) + 1) p

    q : object_of n ≡ o
    q = object_of-cell o (incarnation_in (word_begun v.last) + 1) p (small p lt)

    life : (cell s n).life ≡ other_life (incarnation s o) false
    life =
        ap (λ j. (cell_in s o (j + 1) p).life) is.row ∙ (r.sound.cells.locks.lives o p is.present.named (within p lt)).other.life
        ∙ ap (other_life (incarnation s o)) is.present.unhanded

    none : (b : Bool) → eqb (incarnation s o) 0 ≡ b → {declaration : L} (chain : Chain L P O R) (row : Row L P O R) → AreRowsOf F declaration s (object_of n) chain → row_in chain (cell s n).life ≡ Some row
        → (object s (object_of n)).freed ≤ (cell s n).life → ⊥
    none false e chain row rows here kept =
        let less : other_life (incarnation s o) false ≡ incarnation s o - 1 = grind (arith, nat_tests, e) in
        let more : 0 < incarnation s o = grind (arith, nat_tests, e) in
        let gone = is.freed in let life' = life in
        let freed_n : (object s (object_of n)).freed ≡ (object s o).freed = ap (λ k. (object s k).freed) q in
        omega (arith, kept, life', less, more, gone, freed_n)
    none true e {declaration} chain row rows here kept =
        let zero_is : incarnation s o ≡ 0 = eqb-true (incarnation s o) 0 e in
        let one : other_life (incarnation s o) false ≡ 1 = ap (λ i. other_life i false) zero_is in
        let past : length chain.past ≡ 0 = past_length (subst (λ k. AreRowsOf F declaration s k chain) q rows) ∙ hands_are o is.present ∙ zero_is in
        no_second chain row past (ap (row_in chain) (sym (life ∙ one)) ∙ here)
      where
        past_length : {declaration : L} {chain : Chain L P O R} → AreRowsOf F declaration s o chain → length chain.past ≡ many_hands s o
        past_length {declaration} {chain} rows =
            let long = ap length rows.layouts in
            let mapped = length-map chain.past (λ (turn : Turn L P O R). turn.row.layout) in
            let more = length-append (layouts_of s o) (declaration ∷ []) in
            omega (arith, long, mapped, more)

  -- where nothing is noted of a place, the empty part is due

  pub empty_inside : AreOneWay F → (place : ℕ) (note : Note P O R) → slice_get v.notes place ≡ Some note → note.part ≡ None
      → (o i p : ℕ) → IsInside v.visitor.place o i → note.cell ≡ cell_of o i p → p < F.procs
      → (declaration layout : L) → slice_get declared o ≡ Some declaration → F.object_of layout ≡ F.object_of declaration → v.layout ≡ Some (F.tag_of layout)
      → p < cells_of (shape_of F layout) F.procs → IsPart F declared s note.cell (Some ((F.ways_of layout).empty F.procs p))
  empty_inside one_way place note e none o i p inside named lt declaration layout declares kind known' within' =
      let is = inside_present o i inside in
      empty_due o is.0 one_way note.cell p (named ∙ ap (λ j. cell_of o j p) is.1) lt ((knows.cells.notes place note e).part ∙ none) declaration layout declares kind
      (sym (knows.phases.layout (F.tag_of layout) o i known' inside)) within'

  pub empty_moved : AreOneWay F → (place : ℕ) (note : Note P O R) → slice_get v.notes place ≡ Some note → note.part ≡ None
      → (o p : ℕ) → v.visitor.swap ≡ Moved o → v.handed ≡ None → note.cell ≡ cell_of o (incarnation_in (word_begun v.last)) p → p < F.procs
      → (declaration layout : L) → slice_get declared o ≡ Some declaration → F.object_of layout ≡ F.object_of declaration → F.tag_of layout ≡ layout_in (word_begun v.last)
      → p < cells_of (shape_of F layout) F.procs → IsPart F declared s note.cell (Some ((F.ways_of layout).empty F.procs p))
  empty_moved one_way place note e none o p swap unhanded named lt declaration layout declares kind tag within' =
      let is = moved_present o swap unhanded in
      empty_due o is.present one_way note.cell p (named ∙ ap (λ j. cell_of o j p) is.row) lt ((knows.cells.notes place note e).part ∙ none) declaration layout declares kind
      (tag ∙ sym is.layout) within'

-- The same in every state that the table shows while the pass has the view.
module _ {S L P O R : Type 0} (F : Layouts S L P O R) (laws : AreLaws F) (declared : List L) (id : ℕ) (v : PassView P O R) where
  pub rows_always : Always F declared id v (λ s. AreRowsNoted F declared v)
  rows_always table r at = rows_noted F laws declared table r id v at

  pub noted_always : (place : ℕ) (note : Note P O R) → slice_get v.notes place ≡ Some note → Always F declared id v (λ s. IsPart F declared s note.cell note.part)
  noted_always place note e table r at = noted_due F laws declared table r id v at place note e

  pub freed_always : (n : ℕ) → TouchesFreed F.procs n v → Always F declared id v (λ s. IsPart F declared s n None)
  freed_always n touches table r at = freed_due F laws declared table r id v at n touches

  pub next_always : (o p : ℕ) → v.visitor.swap ≡ Moved o → v.handed ≡ None → p < F.procs
      → Always F declared id v (λ s. IsPart F declared s (cell_of o (incarnation_in (word_begun v.last) + 1) p) None)
  next_always o p swap unhanded lt table r at = next_due F laws declared table r id v at o p swap unhanded lt

  pub empty_inside_always : AreOneWay F → (place : ℕ) (note : Note P O R) → slice_get v.notes place ≡ Some note → note.part ≡ None
      → (o i p : ℕ) → IsInside v.visitor.place o i → note.cell ≡ cell_of o i p → p < F.procs
      → (declaration layout : L) → slice_get declared o ≡ Some declaration → F.object_of layout ≡ F.object_of declaration → v.layout ≡ Some (F.tag_of layout)
      → p < cells_of (shape_of F layout) F.procs → Always F declared id v (λ s. IsPart F declared s note.cell (Some ((F.ways_of layout).empty F.procs p)))
  empty_inside_always one_way place note e none o i p inside named lt declaration layout declares kind tag within' table r at =
      empty_inside F laws declared table r id v at one_way place note e none o i p inside named lt declaration layout declares kind tag within'

  pub empty_moved_always : AreOneWay F → (place : ℕ) (note : Note P O R) → slice_get v.notes place ≡ Some note → note.part ≡ None
      → (o p : ℕ) → v.visitor.swap ≡ Moved o → v.handed ≡ None → note.cell ≡ cell_of o (incarnation_in (word_begun v.last)) p → p < F.procs
      → (declaration layout : L) → slice_get declared o ≡ Some declaration → F.object_of layout ≡ F.object_of declaration → F.tag_of layout ≡ layout_in (word_begun v.last)
      → p < cells_of (shape_of F layout) F.procs → Always F declared id v (λ s. IsPart F declared s note.cell (Some ((F.ways_of layout).empty F.procs p)))
  empty_moved_always one_way place note e none o p swap unhanded named lt declaration layout declares kind tag within' table r at =
      empty_moved F laws declared table r id v at one_way place note e none o p swap unhanded named lt declaration layout declares kind tag within'
