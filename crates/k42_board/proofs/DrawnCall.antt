-- A call is drawn: what the step owes to the rule.
use Rattle.std.proofs.Common.{◌≡◌, ◌≢◌, ℕ, ◌+◌, ◌-◌, ◌<◌, ◌≤◌, ◌||◌, Bool, true, false, not, cond, eqb, List, [], ◌∷◌, ◌++◌, Option, Some, None, length, get_or, set, sym, refl, ap, ◌∙◌, subst, ⊎_elim, arith}
use Rattle.std.specs.List.{slice_get}
use Rattle.std.specs.Prelude.{IsTrue, option_map}
use Rattle.std.proofs.lemmas.Bool.{eqb-true, eq-eqb, cases_lt}
use Rattle.std.proofs.lemmas.Option.{same_Some, slice_get-get_or}
use mathlib.Core.Option.{some}
use lib.ListN.{get_elem?}
use Rattle.k42_shapes.specs.declared.shape.Shape.{Shape}
use Rattle.k42_shapes.proofs.ShapeLaws.{few_cells}
use Rattle.atomic_table.specs.Table.{State}
use Rattle.gen_core.specs.Sound.{IsOfStep, generation_of, is_flipped}
use Rattle.gen_core.specs.State as gens
use Rattle.k42_kinds.specs.Rows.{Ways, part_at, changed_at, row_moved, row_replied, IsWithin}
use Rattle.k42_shapes.specs.Shapes.{cells_of}
use Rattle.k42_kinds.specs.LayoutLaws.{StepsRow}
use Rattle.k42_kinds.specs.declared.entry.Entry.{Entry}
use Rattle.k42_kinds.specs.declared.entry.Reach.{Reach}
use Rattle.k42_kinds.specs.declared.entry.Reach.TheVariants.{One, All}
use Rattle.phase_core.specs.Runs.{HasRead}
use Rattle.phase_core.specs.Stages.{IsInside, row_of}
use Rattle.phase_core.specs.Stages as places
use Rattle.phase_core.specs.State.{visitor_at}
use Rattle.phase_core.specs.declared.caller.Place.{Place}
use Rattle.phase_core.specs.declared.caller.Place.TheVariants.{Out, Missed, Direct, AtMediator, Tracked, Blocked}
use Rattle.phase_core.proofs.InSound.{inside_is_present}
use Rattle.phase_core.proofs.Reached.{turn_there}
use Rattle.turn_core.specs.Events.{has_open, names_some}
use Rattle.turn_core.specs.Names.{names, names_once}
use Rattle.turn_core.specs.declared.event.TurnEvent.TheVariants.{Draw}
use Rattle.k42_stamp.specs.Chains.{Chain, Row, parts_of}
use Rattle.k42_stamp.specs.Laws.{AreLaws}
use Rattle.k42_stamp.specs.Layouts.{Layouts, shape_of}
use Rattle.k42_stamp.specs.Parts.{reach_of}
use Rattle.k42_stamp.proofs.PartsAfter.{parts_whole, parts_sized, same_shape}
use Rattle.k42_joined.specs.Drawing.{IsCall, newest_layout, first_cell}
use Rattle.k42_joined.specs.Effects.{effect}
use Rattle.k42_joined.specs.Event.{AtCells}
use Rattle.k42_joined.specs.Locks.{other_life}
use Rattle.k42_joined.specs.Numbers.{cell_of, object_of, place_of, row_cells}
use Rattle.k42_joined.specs.Plain.{Joined}
use Rattle.k42_joined.specs.Possible.{IsPossible}
use Rattle.k42_joined.specs.Rows.{AreRowsOf, cells_reached, history_in}
use Rattle.k42_joined.specs.State.{object, cell, incarnation, many_objects, many_procs, many_hands, is_handed, layouts_of}
use Rattle.k42_joined.specs.Touching.{is_inside}
use Rattle.k42_joined.proofs.CellNumbers.{object_of-cell, place_of-cell, named_in_row, row_names}
use Rattle.k42_joined.proofs.OneChain.{rows_are_one}
use Rattle.k42_joined.proofs.SafeStates.{inside_there, handed_alone, read_row_kept}
use Rattle.k42_board.specs.Cells.{Slot, cells_noted}
use Rattle.k42_board.specs.Drawing.{AgreeOn, MayDrawCall, IsStepped, entry_at, draws_at, part_in, part_noted, part_due, parts_due, numbers_of, HaveParts}
use Rattle.k42_board.specs.Parts.{HasDue}
use Rattle.k42_board.specs.Rule.{KnowsPass, Rule}
use Rattle.k42_board.specs.Trace.{IsOfTime}
use Rattle.k42_board.specs.Words.{lock_word}
use Rattle.k42_board.specs.declared.cell.Content.{Content}
use Rattle.k42_board.specs.declared.view.PassView.{PassView}
use Rattle.k42_board.specs.declared.view.View.{View}
use Rattle.k42_board.specs.declared.view.View.TheVariants.{Crew}
use Rattle.k42_board.proofs.CellsDrawn.{draws, drawn_long}
use Rattle.k42_board.proofs.DrawnAt.{open_is, can_draw_of, all_are, hands_are, open_life, open_closed, next_noted}
use Rattle.k42_board.proofs.DrawnParts.{as_noted, here, rows_here, due_noted, parts_drawn}
use Rattle.k42_board.proofs.Moves.{Moves}
use Rattle.k42_board.proofs.Noted.{content_of, held_named, part_at_number}
use Rattle.k42_board.proofs.OnePass.{with_pass, known}
use Rattle.k42_board.proofs.RowCells.{row_once, row_some, place_in_row, of_parity, some_part, no_part, changed_here, changed_else, made_row, part_within, due_self, due_value}

inside_self : (place : Place) (o i : ℕ) → IsInside place o i → (places.object_of place ≡ o) × (row_of place ≡ i)
inside_self (Missed q j) o i is = is
inside_self (Direct q j) o i is = is
inside_self (Tracked q j) o i is = is
inside_self Out o i is = absurd is
inside_self (AtMediator q) o i is = absurd is
inside_self (Blocked q) o i is = absurd is

is_inside_of : (place : Place) (o i : ℕ) → IsInside place o i → is_inside place o i ≡ true
is_inside_of (Missed q j) o i is = let a = eq-eqb q o is.0 in let b = eq-eqb j i is.1 in rw (a, b) refl
is_inside_of (Direct q j) o i is = let a = eq-eqb q o is.0 in let b = eq-eqb j i is.1 in rw (a, b) refl
is_inside_of (Tracked q j) o i is = let a = eq-eqb q o is.0 in let b = eq-eqb j i is.1 in rw (a, b) refl
is_inside_of Out o i is = absurd is
is_inside_of (AtMediator q) o i is = absurd is
is_inside_of (Blocked q) o i is = absurd is

newest_first : {L : Type 0} (layout : L) (rest layouts : List L) (declaration : L) → layout ∷ rest ≡ layouts ++ declaration ∷ [] → layout ≡ newest_layout layouts declaration
newest_first layout rest [] declaration same = same_Some layout declaration (ap (λ xs. slice_get xs 0) same)
newest_first layout rest (newest ∷ layouts) declaration same = same_Some layout newest (ap (λ xs. slice_get xs 0) same)

-- an activity is of a generation that its processor has reached
step_most : (base : ℕ) (flipped passed : Bool) (generation : ℕ) → IsOfStep base flipped passed generation → generation ≤ generation_of base flipped
step_most base false passed generation is = omega (arith, is)
step_most base true false generation is = ⊎_elim (λ same. omega (arith, same)) (λ next. omega (arith, next)) is
step_most base true true generation is = omega (arith, is)

other_life_not : (i : ℕ) → other_life i false ≢ i
other_life_not i e = go (eqb i 0) refl e where
  go : (b : Bool) → eqb i 0 ≡ b → cond (b || false) (i + 1) (i - 1) ≡ i → ⊥
  go true is same = omega (arith, same)
  go false is same =
      let apart : i ≢ 0 = λ zero_is. let test = eq-eqb i 0 zero_is in absurd (cc) in omega (arith, same, apart)

module _ {S L P O R : Type 0} (F : Layouts S L P O R) (laws : AreLaws F) (agree : AgreeOn F) (declared : List L)
    (table : State (Slot P O R) (View P O R)) (r : Rule F declared table) (id : ℕ) (v : PassView P O R)
    (at : get_elem? table.views id ≡ some (Crew (v ∷ []))) (contents : List (Content P O R)) (op : O) (reply : R)
    (may : MayDrawCall F declared contents op reply v) where
  abbrev s : Joined L O R
  s = r.state

  abbrev c : ℕ
  c = v.number

  abbrev cells : List ℕ
  cells = numbers_of contents

  abbrev o : ℕ
  o = places.object_of v.visitor.place

  abbrev i : ℕ
  i = row_of v.visitor.place

  abbrev entry : Entry O R
  entry = entry_at contents op reply v

  abbrev fresh : ℕ → Option P
  fresh = part_in contents

  abbrev procs : ℕ
  procs = F.procs

  k : KnowsPass F.tag_of s r.beside id v
  k = known F declared table r id v at

  self : (o ≡ may.object) × (i ≡ may.row)
  self = inside_self v.visitor.place may.object may.row may.inside

  inside : IsInside v.visitor.place o i
  inside = subst (λ (z : ℕ × ℕ). IsInside v.visitor.place z.0 z.1) (λ j. (sym self.0 j, sym self.1 j)) may.inside

  declares : slice_get declared o ≡ Some may.declaration
  declares = ap (slice_get declared) self.0 ∙ may.declares

  inside_s : IsInside (visitor_at s.phases c).place o i
  inside_s = subst (λ z. IsInside z o i) (sym (ap (λ x. x.place) k.phases.visitor)) inside

  named : o < many_objects s
  named = inside_there s.phases r.sound.phases c o i k.there inside_s

  present : HasRead s.phases c o i × (i ≡ incarnation s o)
  present = inside_is_present s.phases r.sound.phases c o i k.there inside_s

  unhanded : is_handed s o ≡ false
  unhanded = go (is_handed s o) refl where
    go : (b : Bool) → is_handed s o ≡ b → b ≡ false
    go false e = refl
    go true e = absurd (handed_alone F laws declared s r.sound c o i k.there named e inside_s)

  hands : many_hands s o ≡ i
  hands = hands_are F laws declared s r.sound o named unhanded ∙ sym present.1

  procs_are : procs ≡ many_procs s
  procs_are = r.sound.cells.rows.told.procs

  few : procs ≤ 8
  few = let most = r.sound.cells.locks.many.few_procs in let same = procs_are in omega (arith, most, same)

  kept : (object s o).freed ≤ many_hands s o
  kept = let is = read_row_kept F laws declared s r.sound c o i k.there present.0 in let same = hands in omega (arith, is, same)

  life : (p : ℕ) → p < procs → (cell s (cell_of o i p)).life ≡ many_hands s o
  life p lt = ap (λ j. (cell s (cell_of o j p)).life) present.1 ∙ open_life F laws declared s r.sound o named unhanded p (subst (λ m. p < m) procs_are lt)

  closed : (p : ℕ) → p < procs → (cell s (cell_of o i p)).closed ≡ false
  closed p lt = ap (λ j. (cell s (cell_of o j p)).closed) present.1 ∙ open_closed F laws declared s r.sound o named unhanded p (subst (λ m. p < m) procs_are lt)

  -- the cells of the other row are of another life
  other : (p : ℕ) → p < procs → (cell s (cell_of o (i + 1) p)).life ≢ many_hands s o
  other p lt e =
      let lives = r.sound.cells.locks.lives o p named (subst (λ m. p < m) procs_are lt) in
      let is : (cell s (cell_of o (incarnation s o + 1) p)).life ≡ other_life (incarnation s o) false = lives.other.life ∙ ap (other_life (incarnation s o)) unhanded in
      other_life_not (incarnation s o) (sym is ∙ sym (ap (λ j. (cell s (cell_of o (j + 1) p)).life) present.1) ∙ e ∙ hands ∙ present.1)

  abbrev x : Chain L P O R
  x = (here F laws declared table r id v at o named).chain

  abbrev row : Row L P O R
  row = x.row

  was : AreRowsOf F may.declaration s o x
  was = rows_here F laws declared table r id v at o named may.declaration declares

  abbrev ways : Ways S P O R
  ways = F.ways_of row.layout

  abbrev parts : List P
  parts = parts_of F row

  tagged : F.tag_of row.layout ≡ (object s o).layout
  tagged =
      let has = (here F laws declared table r id v at o named).has in
      let declaration = (here F laws declared table r id v at o named).declaration in
      let now : many_hands s o ≡ incarnation s o = hands ∙ present.1 in
      has.tagged row.layout (ap (slice_get (layouts_of s o ++ declaration ∷ [])) (omega (arith, now)) ∙ ap (λ layouts. slice_get layouts 0) (sym has.rows.layouts))

  kind : F.object_of row.layout ≡ F.object_of may.declaration
  kind = was.fits.row.kind

  same_ways : F.ways_of may.layout ≡ ways
  same_ways =
      agree may.layout row.layout (may.same ∙ sym kind)
      (sym (k.phases.layout (F.tag_of may.layout) o i may.tagged inside) ∙ sym tagged)

  same_tag : F.tag_of may.layout ≡ F.tag_of row.layout
  same_tag = sym (k.phases.layout (F.tag_of may.layout) o i may.tagged inside) ∙ sym tagged

  same_shapes : shape_of F may.layout ≡ shape_of F row.layout
  same_shapes = same_shape F laws may.layout row.layout (may.same ∙ sym kind) same_tag

  takes : IsTrue ((F.object_of row.layout).takes op)
  takes = subst (λ z. IsTrue (z.takes op)) (may.same ∙ sym kind) may.takes

  sized : length parts ≡ cells_of (shape_of F row.layout) procs
  sized = parts_sized F laws may.declaration o (history_in s o) x was.fits

  proc_of_is : F.proc_of c ≡ v.turn.proc
  proc_of_is = r.sound.cells.rows.told.proc_of c k.there ∙ ap (λ z. z.proc) k.generations.turn

  proc_there : v.turn.proc < procs
  proc_there = subst (λ p. p < procs) proc_of_is (laws.on_one c)

  abbrev q : Reach
  q = ways.reach procs op v.turn.proc

  q_is : (F.ways_of may.layout).reach procs op v.turn.proc ≡ q
  q_is = ap (λ (w : Ways S P O R). w.reach procs op v.turn.proc) same_ways

  cells_are : cells ≡ cells_reached procs o i q
  cells_are = may.named ∙ (λ j. cells_reached procs (sym self.0 j) (sym self.1 j) (q_is j))

  within : IsWithin (cells_of (shape_of F row.layout) procs) q
  within = laws.reaches row.layout v.turn.proc op was.fits.row.known proc_there takes

  steps : StepsRow (F.object_of row.layout) ways (F.Whole row.layout procs) parts op q
  steps = laws.steps row.layout v.turn.proc parts op was.fits.row.known proc_there takes (parts_whole F laws may.declaration o (history_in s o) x was.fits)

  few_parts : (ps : List P) → F.Whole row.layout procs ps → length ps ≤ procs
  few_parts ps whole =
      let long = (laws.stands row.layout ps was.fits.row.known whole).sized in
      let most = few_cells (shape_of F row.layout) procs laws.some in omega (arith, long, most)

  noted : (n : ℕ) → names cells n ≡ true → names (cells_noted v.notes) n ≡ true
  noted n e = held_named v.notes contents may.held n e

  -- what is due at a noted cell of the row
  due : (p : ℕ) → p < procs → names cells (cell_of o i p) ≡ true → HasDue ways procs p (part_noted v.notes (cell_of o i p)) (part_at parts p)
  due p lt e = due_noted F laws declared table r id v at o i p named (subst (λ m. p < m) procs_are lt) (noted (cell_of o i p) e) (life p lt) kept

  value : (p : ℕ) (d : P) → p < procs → names cells (cell_of o i p) ≡ true → part_at parts p ≡ Some d → part_due ways procs v.notes o i p ≡ d
  value p d lt e there = due_value ways procs p (part_noted v.notes (cell_of o i p)) d (subst (λ z. HasDue ways procs p (part_noted v.notes (cell_of o i p)) z) there (due p lt e))

  -- what is shown of the cells that the operation needs, one or all
  record Shown (reach : Reach) : Type 0 where
    some_cell : names_some cells ≡ true
    once : names_once cells ≡ true
    of_row : (n : ℕ) → names cells n ≡ true → (p : ℕ) × (p < procs) × (n ≡ cell_of o i p)
    replied : row_replied ways parts op reach ≡ Some reply
    moved :
        (n : ℕ) → object_of n ≡ o → (cell s n).life ≡ many_hands s o → HasDue ways procs (place_of n) (r.beside.contents.part n) (part_at parts (place_of n))
        → HasDue ways procs (place_of n) (cond (names cells n) (fresh n) (r.beside.contents.part n)) (part_at (row_moved ways parts op reach) (place_of n))

  abbrev Stepped : Reach → Type 0
  Stepped reach = IsStepped F declared may.layout v.notes o i contents op reach reply

  -- a cell of the object with this life stands in the row, or beyond all places
  in_row : (n : ℕ) → object_of n ≡ o → (cell s n).life ≡ many_hands s o → place_of n < procs → n ≡ cell_of o i (place_of n)
  in_row n object life' lt =
      ⊎_elim (λ same. same) (λ next. absurd (other (place_of n) lt (ap (λ m. (cell s m).life) (sym next) ∙ life'))) (of_parity n o i object)

  module _ (p : ℕ) (lt : p < length parts) (lt' : p < procs) (one : cells ≡ cell_of o i p ∷ []) (stepped : Stepped (One p)) where
    found : (d : P) × (part_at parts p ≡ Some d)
    found = some_part parts p lt

    is_named : names cells (cell_of o i p) ≡ true
    is_named = ap (λ xs. names xs (cell_of o i p)) one ∙ (let same = eq-eqb (cell_of o i p) (cell_of o i p) refl in rw same refl)

    value_is : part_due ways procs v.notes o i p ≡ found.0
    value_is = value p found.0 lt' is_named found.1

    only : (n : ℕ) → names cells n ≡ true → n ≡ cell_of o i p
    only n e = go (eqb (cell_of o i p) n) refl (ap (λ xs. names xs n) (sym one) ∙ e) where
      go : (b : Bool) → eqb (cell_of o i p) n ≡ b → b || false ≡ true → n ≡ cell_of o i p
      go true same is = sym (eqb-true (cell_of o i p) n same)
      go false apart is = absurd (cc)

    reply_is : reply ≡ ways.part_reply found.0 op
    reply_is =
        subst (λ (w : Ways S P O R). reply ≡ w.part_reply (part_due w procs v.notes o i p) op) same_ways stepped.0
        ∙ ap (λ d. ways.part_reply d op) value_is

    each_part : (place : ℕ) (content : Content P O R) → slice_get contents place ≡ Some content → content.part ≡ Some (ways.part_after found.0 op)
    each_part place content e =
        subst (λ (w : Ways S P O R). content.part ≡ Some (w.part_after (part_due w procs v.notes o i p) op)) same_ways (stepped.1 place content e)
        ∙ ap (λ d. Some (ways.part_after d op)) value_is

    once_one : names_once cells ≡ true
    once_one = ap names_once one

    fresh_one : (n : ℕ) → names cells n ≡ true → fresh n ≡ Some (ways.part_after found.0 op)
    fresh_one n e =
        let has = content_of contents n e in
        ap fresh (sym has.number) ∙ part_at_number contents once_one has.place has.content has.there ∙ each_part has.place has.content has.there

    place_is : (n : ℕ) → names cells n ≡ true → place_of n ≡ p
    place_is n e = ap place_of (only n e) ∙ place_of-cell o i p (let most = few in omega (arith, lt', most))

    moved_one : (n : ℕ) → object_of n ≡ o → (cell s n).life ≡ many_hands s o → HasDue ways procs (place_of n) (r.beside.contents.part n) (part_at parts (place_of n))
        → (b : Bool) → names cells n ≡ b
        → HasDue ways procs (place_of n) (cond b (fresh n) (r.beside.contents.part n)) (part_at (changed_at (λ part. ways.part_after part op) parts p) (place_of n))
    moved_one n object life' old true e =
        let new : part_at (changed_at (λ part. ways.part_after part op) parts p) (place_of n) ≡ Some (ways.part_after found.0 op) =
        ap (part_at (changed_at (λ part. ways.part_after part op) parts p)) (place_is n e) ∙ changed_here (λ part. ways.part_after part op) parts p found.0 found.1 in
        subst (λ (z : Option P × Option P). HasDue ways procs (place_of n) z.0 z.1) (λ j. (sym (fresh_one n e) j, sym new j))
        (due_self ways procs (place_of n) (Some (ways.part_after found.0 op)))
    moved_one n object life' old false e =
        let apart : place_of n ≢ p = λ same.
        let here' : n ≡ cell_of o i p = in_row n object life' (subst (λ z. z < procs) (sym same) lt') ∙ ap (cell_of o i) same in
        let there : names cells n ≡ true = ap (names cells) here' ∙ is_named in absurd (cc) in
        subst (λ z. HasDue ways procs (place_of n) (r.beside.contents.part n) z) (sym (changed_else (λ part. ways.part_after part op) parts p (place_of n) apart)) old

    shown_one : Shown (One p)
    shown_one = record {
      some_cell = ap names_some one;
      once = once_one;
      of_row = λ n e. (p, lt', only n e);
      replied = ap (option_map (λ part. ways.part_reply part op)) found.1 ∙ ap Some (sym reply_is);
      moved = λ n object life' old. moved_one n object life' old (names cells n) refl;
    }

  module _ (all : cells ≡ row_cells procs o i) (whole : F.Whole row.layout procs (ways.row_after parts op)) (stepped : Stepped All) where
    all_named : (p : ℕ) → p < procs → names cells (cell_of o i p) ≡ true
    all_named p lt = ap (λ xs. names xs (cell_of o i p)) all ∙ row_names procs o i p lt

    all_due : parts_due ways procs v.notes o i (shape_of F row.layout) ≡ parts
    all_due =
        made_row (part_due ways procs v.notes o i) (cells_of (shape_of F row.layout) procs) parts sized
        (λ p d there.
        let low = part_within parts p d there in
        let lt : p < procs = let long = sized in let most = few_cells (shape_of F row.layout) procs laws.some in omega (arith, low, long, most) in
        value p d lt (all_named p lt) there)

    reply_all : reply ≡ ways.row_reply parts op
    reply_all =
        subst (λ (z : Ways S P O R × Shape). reply ≡ z.0.row_reply (parts_due z.0 procs v.notes o i z.1) op) (λ j. (same_ways j, same_shapes j)) stepped.0
        ∙ ap (λ ps. ways.row_reply ps op) all_due

    each_all : HaveParts (ways.row_after parts op) contents
    each_all place content e =
        subst (λ (z : Ways S P O R × Shape). content.part ≡ part_at (z.0.row_after (parts_due z.0 procs v.notes o i z.1) op) place) (λ j. (same_ways j, same_shapes j)) (stepped.1 place content e)
        ∙ ap (λ ps. part_at (ways.row_after ps op) place) all_due

    once_all : names_once cells ≡ true
    once_all = ap names_once all ∙ row_once procs o i few

    fresh_all : (n : ℕ) → names cells n ≡ true → fresh n ≡ part_at (ways.row_after parts op) (place_of n)
    fresh_all n e =
        let has = content_of contents n e in
        let stands = place_in_row contents procs o i all few has.place has.content has.there in
        ap fresh (sym has.number) ∙ part_at_number contents once_all has.place has.content has.there ∙ each_all has.place has.content has.there
        ∙ ap (part_at (ways.row_after parts op)) (sym stands.2 ∙ ap place_of has.number)

    moved_all : (n : ℕ) → object_of n ≡ o → (cell s n).life ≡ many_hands s o → HasDue ways procs (place_of n) (r.beside.contents.part n) (part_at parts (place_of n))
        → (b : Bool) → names cells n ≡ b
        → HasDue ways procs (place_of n) (cond b (fresh n) (r.beside.contents.part n)) (part_at (ways.row_after parts op) (place_of n))
    moved_all n object life' old true e =
        subst (λ z. HasDue ways procs (place_of n) z (part_at (ways.row_after parts op) (place_of n))) (sym (fresh_all n e)) (due_self ways procs (place_of n) (part_at (ways.row_after parts op) (place_of n)))
    moved_all n object life' old false e =
        let beyond : (place_of n < procs → ⊥) = λ lt.
        let there : names cells n ≡ true = ap (names cells) (in_row n object life' lt) ∙ all_named (place_of n) lt in absurd (cc) in
        let high : procs ≤ place_of n = past (place_of n) beyond in
        let none : part_at parts (place_of n) ≡ None = no_part parts (place_of n) (let most = few_parts parts (parts_whole F laws may.declaration o (history_in s o) x was.fits) in omega (arith, most, high)) in
        let none' : part_at (ways.row_after parts op) (place_of n) ≡ None = no_part (ways.row_after parts op) (place_of n) (let most = few_parts (ways.row_after parts op) whole in omega (arith, most, high)) in
        subst (λ z. HasDue ways procs (place_of n) (r.beside.contents.part n) z) (none ∙ sym none') old
      where
        past : (p : ℕ) → (p < procs → ⊥) → procs ≤ p
        past p not = ⊎_elim (λ lt. absurd (not lt)) (λ ge. ge) (cases_lt p procs)

    shown_all : Shown All
    shown_all = record {
      some_cell = ap names_some all ∙ row_some procs o i laws.some;
      once = once_all;
      of_row = λ n e. let is = named_in_row procs o i n (ap (λ xs. names xs n) (sym all) ∙ e) in let high = is.high in (is.place, omega (arith, high), is.same);
      replied = ap Some (sym reply_all);
      moved = λ n object life' old. moved_all n object life' old (names cells n) refl;
    }

  stepped_at : (reach : Reach) → q ≡ reach → Stepped reach
  stepped_at reach e =
      subst (λ (z : ℕ × ℕ × Reach). IsStepped F declared may.layout v.notes z.0 z.1 contents op z.2 reply) (λ j. (sym self.0 j, sym self.1 j, (q_is ∙ e) j)) may.stepped

  by_reach : (reach : Reach) → q ≡ reach → Shown reach
  by_reach (One p) e =
      let low : p < cells_of (shape_of F row.layout) procs = subst (IsWithin (cells_of (shape_of F row.layout) procs)) e within in
      let long = sized in let most = few_cells (shape_of F row.layout) procs laws.some in
      shown_one p (omega (arith, low, long)) (omega (arith, low, most)) (cells_are ∙ ap (cells_reached procs o i) e) (stepped_at (One p) e)
  by_reach All e =
      shown_all (cells_are ∙ ap (cells_reached procs o i) e) (subst (λ z. F.Whole row.layout procs (row_moved ways parts op z)) e steps.whole) (stepped_at All e)

  shown : Shown q
  shown = by_reach q refl

  reach_is : reach_of F row.layout entry ≡ q
  reach_is = ap (ways.reach procs op) proc_of_is

  open_all : (n : ℕ) → names cells n ≡ true → has_open s.turns c n ≡ true
  open_all n e =
      let is = as_noted F laws declared table r id v at n (noted n e) in
      let of = shown.of_row n e in
      open_is s.turns c n is.held is.away (ap (λ m. (cell s m).closed) of.2 ∙ closed of.0 of.1)

  call_is : IsCall F declared s c cells entry op
  call_is = record {
    inside = ap (λ z. is_inside z.place o i) k.phases.visitor ∙ is_inside_of v.visitor.place o i inside;
    generation = ap (λ z. z.active) (sym k.generations.turn);
    declaration = may.declaration;
    declares = declares;
    takes = subst (λ z. IsTrue (z.takes op)) may.same may.takes;
    reached =
        cells_are ∙ ap (λ m. cells_reached m o i q) procs_are ∙ ap (cells_reached (many_procs s) o i) (sym reach_is)
        ∙ ap (λ l. cells_reached (many_procs s) o i (reach_of F l entry)) (newest_first row.layout _ (layouts_of s o) may.declaration was.layouts);
    reply = reply;
    answer = refl;
    replied = λ chain is.
        subst (λ (z : Chain L P O R). row_replied (F.ways_of z.row.layout) (parts_of F z.row) op (reach_of F z.row.layout entry) ≡ Some reply)
        (rows_are_one F laws may.declaration s o x chain was is) (ap (row_replied ways parts op) reach_is ∙ shown.replied);
  }

  possible : IsPossible F declared s (AtCells (Draw c cells entry))
  possible = record {
    caller = k.there;
    may = record {
      core = can_draw_of s.turns c cells entry shown.some_cell shown.once (all_are (has_open s.turns c) cells open_all)
          (next_noted F laws declared table r id v at cells entry noted refl refl refl);
      beside = record {
        bears = record { proc = ap (λ z. z.proc) (sym k.generations.turn); cell = refl };
        act = call_is;
      };
    };
  }

  timely : IsOfTime s.phases.turns v.turn.proc entry
  timely generation e =
      let turns = s.phases.turns in let course = r.sound.phases.in_scene.in_course in
      let there : c < length turns.callers = turn_there s.phases r.sound.phases c k.there in
      let proc_low : v.turn.proc < length turns.procs = let lt = proc_there in let same = procs_are in omega (arith, lt, same) in
      let turn = k.generations.turn in
      let of = course.activities_in_step c (gens.caller_at turns c) (slice_get-get_or turns.callers c _ there) generation (ap (λ z. z.active) turn ∙ e) in
      let most = step_most r.sound.phases.scene.course.base _ _ generation of in
      let step = course.generations_in_step v.turn.proc (gens.proc_at turns v.turn.proc) (slice_get-get_or turns.procs v.turn.proc _ proc_low) in
      let proc_same = ap (λ z. z.proc) turn in
      subst (λ z. generation ≤ z) (sym step) (subst (λ p. generation ≤ generation_of r.sound.phases.scene.course.base (is_flipped r.sound.phases.scene.course.stage p)) proc_same most)

  there : (n : ℕ) → names cells n ≡ true → n < length s.turns.cells
  there n e = (as_noted F laws declared table r id v at n (noted n e)).there

  of_object : (n : ℕ) → names cells n ≡ true → (object_of n ≡ o) × ((cell s n).life ≡ many_hands s o)
  of_object n e =
      let of = shown.of_row n e in
      let lt = of.1 in let most = few in
      (ap object_of of.2 ∙ object_of-cell o i of.0 (omega (arith, lt, most)), ap (λ m. (cell s m).life) of.2 ∙ life of.0 of.1)

  pub call_draws : (i : ℕ) → (after : Rule F declared (with_pass table (set table.words i (get_or table.words i 0)) table.homes id (draws_at contents entry v)))
      × (after.state ≡ effect s (AtCells (Draw c cells entry))) × IsPossible F declared s (AtCells (Draw c cells entry))
  call_draws word =
      let after = draws F laws declared table r id v at cells entry fresh (record {
        possible = possible;
        once = shown.once;
        there = there;
        noted = noted;
        few = may.few;
        timely = timely;
        parts = λ m lt. parts_drawn F laws declared table r id v at cells entry fresh possible shown.once there o named refl of_object
            (λ n lt' object life' old.
            subst (λ z. HasDue ways procs (place_of n) (cond (names cells n) (fresh n) (r.beside.contents.part n)) (part_at (row_moved ways parts op z) (place_of n)))
            (sym reach_is) (shown.moved n object life' old))
            m (subst (λ z. m < z) (drawn_long F laws declared table r id v at cells entry fresh) lt);
      }) word in
      (after.0, after.1, possible)

pub drawn_moves : {S L P O R : Type 0} (F : Layouts S L P O R) → AreLaws F → AgreeOn F → (declared : List L) (id : ℕ) (v : PassView P O R) (contents : List (Content P O R)) (op : O) (reply : R)
    → MayDrawCall F declared contents op reply v
    → Moves F declared (AtCells (Draw v.number (numbers_of contents) (entry_at contents op reply v)))
    (lock_word (first_cell (numbers_of contents))) (λ word. word) (λ found. draws_at contents (entry_at contents op reply v)) id v
drawn_moves F laws agree declared id v contents op reply may =
    record { from = λ table r at. call_draws F laws agree declared table r id v at contents op reply may (lock_word (first_cell (numbers_of contents))) }
