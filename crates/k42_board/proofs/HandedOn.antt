-- A row is handed on: where it may be, and what the step owes to the rule.
use Rattle.std.proofs.Common.{◌≡◌, ◌⊎◌, ℕ, ◌+◌, ◌-◌, ◌<◌, ◌≤◌, ◌^◌, ◌||◌, ◌&&◌, Bool, true, false, not, cond, eqb, ltb, List, [], ◌∷◌, ◌++◌, Option, Some, None, length, get_or, set, sym, refl, ap, ◌∙◌, subst, inl, inr, ⊎_elim, arith}
use Rattle.std.specs.List.{slice_get, list_all}
use Rattle.std.proofs.lemmas.Bool.{eq-eqb, lt-ltb, and_parts, not-true}
use mathlib.Core.Option.{some}
use lib.ListN.{get_elem?}
use Rattle.k42_shapes.proofs.ShapeLaws.{few_cells}
use Rattle.atomic_table.specs.Table.{State}
use Rattle.k42_limits.specs.declared.TheConstants.{LAST_INCARNATION}
use Rattle.k42_kinds.specs.Rows.{part_at}
use Rattle.k42_shapes.specs.Shapes.{cells_of}
use Rattle.k42_kinds.specs.declared.entry.Answer.{Answer}
use Rattle.k42_kinds.specs.declared.entry.Answer.TheVariants.{Swapped}
use Rattle.k42_kinds.specs.declared.entry.Entry.{Entry}
use Rattle.phase_core.specs.Consequences.{IsReadyToMove}
use Rattle.phase_core.specs.Plain.{Visitor}
use Rattle.phase_core.specs.Stages.{object_named}
use Rattle.phase_core.specs.State.{visitor_at}
use Rattle.phase_core.specs.declared.caller.SwapAt.TheVariants.{Moved}
use Rattle.phase_core.proofs.InSound.{moved_is_ready}
use Rattle.turn_core.specs.Events.{has_open, has_beginning, may_begin, is_empty, is_next, can_hand}
use Rattle.turn_core.specs.Names.{names, names_once}
use Rattle.turn_core.specs.Plain.{Cell, Turns}
use Rattle.turn_core.specs.State.{cell_at}
use Rattle.k42_stamp.specs.Chains.{Chain, part_of, parts_of, state_of}
use Rattle.k42_stamp.specs.Laws.{AreLaws}
use Rattle.k42_stamp.specs.Layouts.{Layouts, shape_of}
use Rattle.k42_stamp.proofs.PartsAfter.{parts_sized, same_shape}
use Rattle.k42_joined.specs.Effects.{effect}
use Rattle.k42_joined.specs.Event.{HandWith}
use Rattle.k42_joined.specs.Locks.{AreOfLives}
use Rattle.k42_joined.specs.Numbers.{cell_of, row_cells}
use Rattle.k42_joined.specs.Plain.{Joined}
use Rattle.k42_joined.specs.Possible.{IsPossible}
use Rattle.k42_joined.specs.Rows.{AreRowsOf, history_in}
use Rattle.k42_joined.specs.State.{object, cell, cell_in, incarnation, many_objects, many_procs, many_hands, is_handed, layouts_of}
use Rattle.k42_joined.specs.Swapping.{may_turn_over, is_newest_tag}
use Rattle.k42_joined.proofs.CellNumbers.{IsAmong, named_in_row, row_names}
use Rattle.k42_joined.proofs.LocksHand.{apart_row, hands_here, hands_after}
use Rattle.k42_joined.proofs.LocksLives.{IsWaiting, waiting}
use Rattle.k42_board.specs.Cells.{Slot, cells_noted}
use Rattle.k42_board.specs.Drawing.{MayHandOn, entry_hand, numbers_of, part_in, part_noted, part_due, parts_due, parts_moved}
use Rattle.k42_board.specs.Handing.{hands_at}
use Rattle.k42_board.specs.Parts.{HasDue}
use Rattle.k42_board.specs.Rule.{KnowsPass, Rule}
use Rattle.k42_board.specs.declared.cell.Content.{Content}
use Rattle.k42_board.specs.declared.view.PassView.{PassView}
use Rattle.k42_board.specs.declared.view.View.{View}
use Rattle.k42_board.specs.declared.view.View.TheVariants.{Crew}
use Rattle.k42_board.proofs.CellsHanded.{hands, handed_long}
use Rattle.k42_board.proofs.DrawnAt.{open_is, all_are, open_closed, next_noted}
use Rattle.k42_board.proofs.DrawnParts.{as_noted, here, rows_here, past_here, due_noted}
use Rattle.k42_board.proofs.HandedParts.{parts_handed}
use Rattle.k42_board.proofs.Moves.{Moves}
use Rattle.k42_board.proofs.Noted.{content_of, held_named, part_at_number}
use Rattle.k42_board.proofs.OnePass.{with_pass, known}
use Rattle.k42_board.proofs.PartLaws.{AreOneWay, IsMoving, moved_present, row_now}
use Rattle.k42_board.proofs.RowCells.{row_once, place_in_row, made_row, part_within, due_self, due_value}

-- lists that name cells, one after the other

names_both : (xs ys : List ℕ) (n : ℕ) → names (xs ++ ys) n ≡ names xs n || names ys n
names_both [] ys n = refl
names_both (x ∷ xs) ys n = ap (λ b. eqb x n || b) (names_both xs ys n) ∙ go (eqb x n) where
  go : (a : Bool) → a || (names xs n || names ys n) ≡ (a || names xs n) || names ys n
  go true = refl
  go false = refl

or_parts : (a b : Bool) → a || b ≡ true → (a ≡ true) ⊎ (b ≡ true)
or_parts true b e = inl refl
or_parts false b e = inr e

pub once_both : (xs ys : List ℕ) → names_once xs ≡ true → names_once ys ≡ true → ((n : ℕ) → names xs n ≡ true → names ys n ≡ false) → names_once (xs ++ ys) ≡ true
once_both [] ys one two apart = two
once_both (x ∷ xs) ys one two apart =
    let parts = and_parts (not (names xs x)) (names_once xs) one in
    let no = not-true (names xs x) parts.0 in
    let no' = apart x (first_true x xs) in
    let new : names (xs ++ ys) x ≡ false = names_both xs ys x ∙ (λ i. no i || no' i) in
    let rest = once_both xs ys parts.1 two (λ n e. apart n (further x n xs e)) in
    rw (new, rest) refl
  where
    first_true : (x : ℕ) (xs : List ℕ) → names (x ∷ xs) x ≡ true
    first_true x xs = ap (λ b. b || names xs x) (eq-eqb x x refl)

    further : (x n : ℕ) (xs : List ℕ) → names xs n ≡ true → names (x ∷ xs) n ≡ true
    further x n xs e = go (eqb x n) where
      go : (a : Bool) → a || names xs n ≡ true
      go true = refl
      go false = e

-- the parts of two lists of cells

part_left : {P O R : Type 0} (from onto : List (Content P O R)) (n : ℕ) → names (numbers_of from) n ≡ true → part_in (from ++ onto) n ≡ part_in from n
part_left [] onto n e = absurd (cc)
part_left (content ∷ from) onto n e = go (eqb content.number n) e (part_left from onto n) where
  go : (b : Bool) → b || names (numbers_of from) n ≡ true → (names (numbers_of from) n ≡ true → part_in (from ++ onto) n ≡ part_in from n)
      → cond b content.part (part_in (from ++ onto) n) ≡ cond b content.part (part_in from n)
  go true e rest = refl
  go false e rest = rest e

part_right : {P O R : Type 0} (from onto : List (Content P O R)) (n : ℕ) → names (numbers_of from) n ≡ false → part_in (from ++ onto) n ≡ part_in onto n
part_right [] onto n e = refl
part_right (content ∷ from) onto n e = go (eqb content.number n) e (part_right from onto n) where
  go : (b : Bool) → b || names (numbers_of from) n ≡ false → (names (numbers_of from) n ≡ false → part_in (from ++ onto) n ≡ part_in onto n)
      → cond b content.part (part_in (from ++ onto) n) ≡ part_in onto n
  go true e rest = absurd (cc)
  go false e rest = rest e

-- where a life waits, it may begin
may_begin_of : {O R : Type 0} (i : ℕ) (y : Cell O R) (closed : Bool) → IsWaiting i y closed → i < LAST_INCARNATION → may_begin y ≡ true
may_begin_of i y true is low =
    let life = is.life in
    ap (λ b. cond b (ltb y.life (2 ^ 32 - 2)) (is_empty y.history)) is.closed_is ∙ lt-ltb y.life (2 ^ 32 - 2) (omega (arith, life, low))
may_begin_of i y false is low =
    ap (λ b. cond b (ltb y.life (2 ^ 32 - 2)) (is_empty y.history)) is.closed_is ∙ ap is_empty (is.history refl)

beginning_is : {O R : Type 0} (s : Turns O R) (c n : ℕ) → (cell_at s n).lock ≡ Some c → (cell_at s n).home ≡ false → may_begin (cell_at s n) ≡ true → has_beginning s c n ≡ true
beginning_is s c n lock home may = let same = eq-eqb c c refl in rw (lock, home, may, same) refl

can_hand_of : {O R : Type 0} (s : Turns O R) (c : ℕ) (from onto : List ℕ) (entry : Entry O R) → names_once (from ++ onto) ≡ true → list_all (has_open s c) from ≡ true
    → list_all (has_beginning s c) onto ≡ true → is_next s c (from ++ onto) entry ≡ true → can_hand s c from onto entry ≡ true
can_hand_of s c from onto entry one two three four = rw (one, two, three, four) refl

module _ {S L P O R : Type 0} (F : Layouts S L P O R) (laws : AreLaws F) (agree : AreOneWay F) (declared : List L)
    (table : State (Slot P O R) (View P O R)) (r : Rule F declared table) (id : ℕ) (v : PassView P O R)
    (at : get_elem? table.views id ≡ some (Crew (v ∷ []))) (from onto : List (Content P O R)) (to : L) (answer : Answer R)
    (may : MayHandOn F declared from onto to answer v) where
  abbrev s : Joined L O R
  s = r.state

  abbrev c : ℕ
  c = v.number

  abbrev closing : List ℕ
  closing = numbers_of from

  abbrev opening : List ℕ
  opening = numbers_of onto

  abbrev o : ℕ
  o = object_named v.visitor.swap

  abbrev i : ℕ
  i = incarnation s o

  abbrev procs : ℕ
  procs = many_procs s

  abbrev entry : Entry O R
  entry = entry_hand v closing opening (F.act_of to) answer

  abbrev fresh : ℕ → Option P
  fresh = part_in (from ++ onto)

  k : KnowsPass F.tag_of s r.beside id v
  k = known F declared table r id v at

  self : o ≡ may.object
  self = ap object_named may.moved

  moves : v.visitor.swap ≡ Moved o
  moves = may.moved ∙ ap Moved (sym self)

  moving : IsMoving F laws declared table r id v at o
  moving = moved_present F laws declared table r id v at o moves may.once

  named : o < many_objects s
  named = moving.present.named

  unhanded : is_handed s o ≡ false
  unhanded = moving.present.unhanded

  swap_is : (visitor_at s.phases c).swap ≡ Moved o
  swap_is = ap (λ (z : Visitor). z.swap) k.phases.visitor ∙ moves

  ready : IsReadyToMove (object s o)
  ready = moved_is_ready s.phases r.sound.phases c o k.there swap_is

  same_procs : F.procs ≡ procs
  same_procs = r.sound.cells.rows.told.procs

  few : procs ≤ 8
  few = r.sound.cells.locks.many.few_procs

  declares : slice_get declared o ≡ Some may.declaration
  declares = ap (slice_get declared) self ∙ may.declares

  closes : closing ≡ row_cells procs o i
  closes = may.closes ∙ (λ j. row_cells (same_procs j) (sym self j) (moving.row j))

  begins : opening ≡ row_cells procs o (i + 1)
  begins = may.begins ∙ (λ j. row_cells (same_procs j) (sym self j) (moving.row j + 1))

  -- the cells

  among_closing : (n : ℕ) → names closing n ≡ true → IsAmong o i 0 procs n
  among_closing n e = named_in_row procs o i n (ap (λ cells. names cells n) (sym closes) ∙ e)

  among_opening : (n : ℕ) → names opening n ≡ true → IsAmong o (i + 1) 0 procs n
  among_opening n e = named_in_row procs o (i + 1) n (ap (λ cells. names cells n) (sym begins) ∙ e)

  in_closing : (p : ℕ) → p < procs → names closing (cell_of o i p) ≡ true
  in_closing p lt = ap (λ cells. names cells (cell_of o i p)) closes ∙ row_names procs o i p lt

  in_opening : (p : ℕ) → p < procs → names opening (cell_of o (i + 1) p) ≡ true
  in_opening p lt = ap (λ cells. names cells (cell_of o (i + 1) p)) begins ∙ row_names procs o (i + 1) p lt

  not_closing : (p : ℕ) → p < procs → names closing (cell_of o (i + 1) p) ≡ false
  not_closing p lt = ap (λ cells. names cells (cell_of o (i + 1) p)) closes ∙ apart_row procs o i o (i + 1) p few lt (inr (λ e. omega (arith, e)))

  pub apart : (n : ℕ) → names closing n ≡ true → names opening n ≡ false
  apart n e =
      let is = among_closing n e in
      let high = is.high in
      ap (names opening) is.same ∙ ap (λ cells. names cells (cell_of o i is.place)) begins
      ∙ apart_row procs o (i + 1) o i is.place few (omega (arith, high)) (inr (λ same. omega (arith, same)))

  once_closing : names_once closing ≡ true
  once_closing = ap names_once closes ∙ row_once procs o i few

  once_opening : names_once opening ≡ true
  once_opening = ap names_once begins ∙ row_once procs o (i + 1) few

  noted_closing : (n : ℕ) → names closing n ≡ true → names (cells_noted v.notes) n ≡ true
  noted_closing n e = held_named v.notes from may.held_from n e

  noted_opening : (n : ℕ) → names opening n ≡ true → names (cells_noted v.notes) n ≡ true
  noted_opening n e = held_named v.notes onto may.held_onto n e

  noted : (n : ℕ) → names (closing ++ opening) n ≡ true → names (cells_noted v.notes) n ≡ true
  noted n e = ⊎_elim (noted_closing n) (noted_opening n) (or_parts (names closing n) (names opening n) (sym (names_both closing opening n) ∙ e))

  lives : (p : ℕ) → p < procs → AreOfLives i false (cell_in s o i p) (cell_in s o (i + 1) p)
  lives p lt = subst (λ b. AreOfLives i b (cell_in s o i p) (cell_in s o (i + 1) p)) unhanded (r.sound.cells.locks.lives o p named lt)

  begins_life : (n : ℕ) → names opening n ≡ true → may_begin (cell_at s.turns n) ≡ true
  begins_life n e =
      let is = among_opening n e in
      let high = is.high in
      ap (λ m. may_begin (cell_at s.turns m)) is.same
      ∙ may_begin_of i (cell_in s o (i + 1) is.place) (not (eqb i 0)) (waiting i (cell_in s o i is.place) (cell_in s o (i + 1) is.place) (lives is.place (omega (arith, high)))) ready.next

  opens : (n : ℕ) → names closing n ≡ true → has_open s.turns c n ≡ true
  opens n e =
      let is = among_closing n e in
      let high = is.high in
      let note = as_noted F laws declared table r id v at n (noted_closing n e) in
      open_is s.turns c n note.held note.away
      (ap (λ m. (cell s m).closed) is.same ∙ open_closed F laws declared s r.sound o named unhanded is.place (omega (arith, high)))

  begins_is : (n : ℕ) → names opening n ≡ true → has_beginning s.turns c n ≡ true
  begins_is n e =
      let note = as_noted F laws declared table r id v at n (noted_opening n e) in
      beginning_is s.turns c n note.held note.away (begins_life n e)

  untimed : entry.generation ≡ None
  untimed = ap (λ b. cond b v.turn.active None) (laws.asks to)

  pub possible : IsPossible F declared s (HandWith c closing opening to entry)
  possible = record {
    caller = k.there;
    may = record {
      core = can_hand_of s.turns c closing opening entry (once_both closing opening once_closing once_opening apart)
          (all_are (has_open s.turns c) closing opens) (all_are (has_beginning s.turns c) opening begins_is)
          (next_noted F laws declared table r id v at (closing ++ opening) entry noted refl refl refl);
      beside = record {
        moved = swap_is;
        once = unhanded;
        freed = inr (let freed = moving.freed in omega (arith, freed));
        closes = closes;
        begins = begins;
        declaration = may.declaration;
        declares = declares;
        kind = may.kind;
        known = may.known;
        present = moving.row;
        act = refl;
        answer = may.answer_is ∙ ap (λ n. Swapped (n + 1)) moving.row;
        bears = record { proc = ap (λ z. z.proc) (sym k.generations.turn); cell = refl };
        generation = untimed;
      };
    };
  }

  -- the parts

  abbrev x : Chain L P O R
  x = (here F laws declared table r id v at o named).chain

  rows : AreRowsOf F may.declaration s o x
  rows = rows_here F laws declared table r id v at o named may.declaration declares

  tags : F.tag_of may.layout ≡ F.tag_of x.row.layout
  tags = may.tagged ∙ sym moving.layout ∙ sym (row_now F laws declared table r id v at o moving.present may.declaration x declares rows).tagged

  one_shape : shape_of F may.layout ≡ shape_of F x.row.layout
  one_shape = same_shape F laws may.layout x.row.layout (may.same ∙ sym rows.fits.row.kind) tags

  ways : F.ways_of may.layout ≡ F.ways_of x.row.layout
  ways = agree may.layout x.row.layout (may.same ∙ sym rows.fits.row.kind) tags

  hands_are : many_hands s o ≡ i
  hands_are = sym (past_here F laws declared table r id v at o named) ∙ (row_now F laws declared table r id v at o moving.present may.declaration x declares rows).many

  due : (p : ℕ) → p < procs → HasDue (F.ways_of x.row.layout) F.procs p (part_noted v.notes (cell_of o i p)) (part_of F x.row p)
  due p lt =
      due_noted F laws declared table r id v at o i p named lt (noted_closing (cell_of o i p) (in_closing p lt))
      ((lives p lt).present.life ∙ sym hands_are) (let hands = hands_are in let freed = moving.freed in omega (arith, hands, freed))

  sized : length (parts_of F x.row) ≡ cells_of (shape_of F x.row.layout) F.procs
  sized = parts_sized F laws may.declaration o (history_in s o) x rows.fits

  parts_are : parts_due (F.ways_of x.row.layout) F.procs v.notes o i (shape_of F x.row.layout) ≡ parts_of F x.row
  parts_are =
      made_row (part_due (F.ways_of x.row.layout) F.procs v.notes o i) (cells_of (shape_of F x.row.layout) F.procs) (parts_of F x.row) sized
      (λ p d e.
      let within = part_within (parts_of F x.row) p d e in
      let long = sized in let most = few_cells (shape_of F x.row.layout) F.procs laws.some in let same = same_procs in
      due_value (F.ways_of x.row.layout) F.procs p (part_noted v.notes (cell_of o i p)) d
      (subst (HasDue (F.ways_of x.row.layout) F.procs p (part_noted v.notes (cell_of o i p))) e (due p (omega (arith, within, long, most, same)))))

  moved_are : parts_moved F declared may.layout v may.object ≡ parts_of F x.row
  moved_are = (λ j. parts_due (ways j) F.procs v.notes (sym self j) (moving.row j) (one_shape j)) ∙ parts_are

  state_is : (F.ways_of may.layout).combine (parts_moved F declared may.layout v may.object) ≡ state_of F x.row
  state_is = λ j. (ways j).combine (moved_are j)

  -- the cell of a row at a place has its part
  closing_due : (p : ℕ) → p < procs → HasDue (F.ways_of x.row.layout) F.procs p (fresh (cell_of o i p)) (part_of F x.row p)
  closing_due p lt =
      let n = cell_of o i p in
      let has = content_of from n (in_closing p lt) in
      let place = place_in_row from procs o i closes few has.place has.content has.there in
      let there = place.0 in let number = has.number in
      let same : has.place ≡ p = omega (arith, there, number) in
      let own : fresh n ≡ has.content.part =
      part_left from onto n (in_closing p lt) ∙ ap (part_in from) (sym has.number) ∙ part_at_number from once_closing has.place has.content has.there in
      subst (λ part. HasDue (F.ways_of x.row.layout) F.procs p part (part_of F x.row p)) (sym own)
      (⊎_elim
      (λ (kept : has.content.part ≡ part_noted v.notes has.content.number).
      subst (λ part. HasDue (F.ways_of x.row.layout) F.procs p part (part_of F x.row p)) (sym (kept ∙ ap (part_noted v.notes) has.number)) (due p lt))
      (λ (made : has.content.part ≡ part_at (parts_moved F declared may.layout v may.object) has.place).
      subst (λ part. HasDue (F.ways_of x.row.layout) F.procs p part (part_of F x.row p)) (sym (made ∙ (λ j. part_at (moved_are j) (same j))))
      (due_self (F.ways_of x.row.layout) F.procs p (part_of F x.row p)))
      (may.kept has.place has.content has.there))

  opening_due : (p : ℕ) → p < procs → fresh (cell_of o (i + 1) p) ≡ part_at ((F.ways_of to).imported F.procs (F.admitted to (state_of F x.row))) p
  opening_due p lt =
      let n = cell_of o (i + 1) p in
      let has = content_of onto n (in_opening p lt) in
      let place = place_in_row onto procs o (i + 1) begins few has.place has.content has.there in
      let there = place.0 in let number = has.number in
      let same : has.place ≡ p = omega (arith, there, number) in
      part_right from onto n (not_closing p lt) ∙ ap (part_in onto) (sym has.number) ∙ part_at_number onto once_opening has.place has.content has.there
      ∙ may.imported has.place has.content has.there ∙ (λ j. part_at ((F.ways_of to).imported F.procs (F.admitted to (state_is j))) (same j))

  handed_is : may_turn_over (effect s (HandWith c closing opening to entry)) F.tag_of o (F.tag_of to) ≡ true
  handed_is =
      let after = effect s (HandWith c closing opening to entry) in
      let many = hands_after F declared s r.sound.cells.locks c closing opening to entry possible.may named in
      let layouts = hands_here F declared s r.sound.cells.locks c closing opening to entry possible.may named in
      let one : is_handed after o ≡ true = lt-ltb i (many_hands after o) (omega (arith, many)) in
      let two : is_newest_tag F.tag_of (layouts_of after o) (F.tag_of to) ≡ true =
      ap (λ ls. is_newest_tag F.tag_of ls (F.tag_of to)) layouts ∙ eq-eqb (F.tag_of to) (F.tag_of to) refl in
      λ j. one j && two j

  pub hand_steps : (n : ℕ) → (after : Rule F declared (with_pass table (set table.words n (get_or table.words n 0)) table.homes id (hands_at from onto entry (F.tag_of to) v)))
      × (after.state ≡ effect s (HandWith c closing opening to entry)) × IsPossible F declared s (HandWith c closing opening to entry)
  hand_steps n =
      let after = hands F laws declared table r id v at closing opening to entry fresh (record {
        possible = possible;
        once_from = once_closing;
        once_onto = once_opening;
        apart = apart;
        there_from = λ m e. (as_noted F laws declared table r id v at m (noted_closing m e)).there;
        there_onto = λ m e. (as_noted F laws declared table r id v at m (noted_opening m e)).there;
        noted_from = noted_closing;
        noted_onto = noted_opening;
        begins = begins_life;
        few = may.few;
        moves = moves;
        named = named;
        untimed = untimed;
        handed_is = handed_is;
        parts = λ m lt. parts_handed F laws declared table r id v at closing opening to entry fresh possible named (record { closes = closing_due; begins = opening_due })
            m (subst (λ z. m < z) (handed_long F laws declared table r id v at closing opening to entry fresh) lt);
      }) n in
      (after.0, after.1, possible)

pub hand_moves : {S L P O R : Type 0} (F : Layouts S L P O R) → AreLaws F → AreOneWay F → (declared : List L) (id : ℕ) (v : PassView P O R) (from onto : List (Content P O R)) (to : L) (entry : Entry O R)
    → MayHandOn F declared from onto to entry.answer v × (entry ≡ entry_hand v (numbers_of from) (numbers_of onto) (F.act_of to) entry.answer) → (n : ℕ)
    → Moves F declared (HandWith v.number (numbers_of from) (numbers_of onto) to entry) n (λ word. word) (λ found. hands_at from onto entry (F.tag_of to)) id v
hand_moves {O} {R} F laws agree declared id v from onto to entry may n =
    subst (λ (e : Entry O R). Moves F declared (HandWith v.number (numbers_of from) (numbers_of onto) to e) n (λ word. word) (λ found. hands_at from onto e (F.tag_of to)) id v)
    (sym may.1) (record { from = λ table r at. hand_steps F laws agree declared table r id v at from onto to entry.answer may.0 n })
