-- A call at the cells that it needs: its operation is made on their parts, and the entry drawn.
use Rattle.std.proofs.Common.{◌≡◌, ℕ, zero, suc, ◌+◌, ◌<◌, ◌≤◌, true, List, [], ◌∷◌, Option, Some, None, length, take, drop, refl, sym, ap, ◌∙◌, subst, arith}
use Rattle.std.specs.List.{slice_get}
use Rattle.std.specs.Option.{unwrap_or}
use Rattle.std.proofs.lemmas.List.{length-map, take-map}
use Rattle.std.proofs.lemmas.Option.{same_Some, slice_get_within}
use Rattle.k42_places.specs.Places.{EachPlace}
use Rattle.k42_kinds.specs.LayoutLaws.{Agree, IsReached}
use Rattle.k42_kinds.specs.Rows.{Ways, made_from, IsWithin, row_moved}
use Rattle.k42_shapes.proofs.ShapeLaws.{few_cells}
use Rattle.k42_shapes.specs.Shapes.{cells_of}
use Rattle.k42_shapes.specs.declared.shape.Shape.{Shape}
use Rattle.k42_kinds.specs.declared.entry.Act.TheVariants.{Call}
use Rattle.k42_kinds.specs.declared.entry.Answer.TheVariants.{Replied}
use Rattle.k42_kinds.specs.declared.entry.Entry.{Entry}
use Rattle.k42_kinds.specs.declared.entry.Reach.{Reach}
use Rattle.k42_kinds.specs.declared.entry.Reach.TheVariants.{One, All}
use Rattle.phase_core.specs.Stages.{IsInside, object_of, row_of}
use Rattle.phase_core.specs.declared.caller.Place.{Place}
use Rattle.phase_core.specs.declared.caller.Place.TheVariants.{Out, Missed, Direct, AtMediator, Tracked, Blocked}
use Rattle.turn_core.specs.Events.{caller_drawn}
use Rattle.turn_core.specs.Names.{names, names_once}
use Rattle.k42_stamp.specs.Laws.{AreLaws}
use Rattle.k42_stamp.proofs.PartsAfter.{part_at-beyond, same_shape}
use Rattle.k42_stamp.specs.Layouts.{Layouts, shape_of}
use Rattle.k42_joined.specs.Numbers.{cell_of, row_cells}
use Rattle.k42_joined.specs.Rows.{cells_reached}
use Rattle.k42_board.specs.Calling.{due_in, stepped_at}
use Rattle.k42_board.specs.Cells.{cells_noted}
use Rattle.k42_board.specs.Drawing.{IsHeld, AreHeld, IsTold, AreTold, HaveParts, IsStepped, MayDrawCall, numbers_of, part_noted, part_in, part_due, parts_due, entry_call, drawn_at}
use Rattle.k42_limits.specs.declared.TheConstants.{PASS_ENTRIES}
use Rattle.k42_board.specs.Phases.{is_served}
use Rattle.k42_board.specs.Taking.{CELLS, IsRowNoted}
use Rattle.k42_board.specs.Log.{step_at, took, with_log}
use Rattle.k42_board.specs.declared.cell.Content.{Content}
use Rattle.k42_board.specs.declared.view.Note.{Note}
use Rattle.k42_board.specs.declared.view.PassView.{PassView}
use Rattle.k42_board.specs.declared.view.StepName.TheVariants as steps
use Rattle.k42_board.specs.declared.view.Taken.{Taken}
use Rattle.k42_board.proofs.Gained.{extends_one, extends_as}
use Rattle.k42_board.proofs.Noted.{each_named}
use Rattle.k42_board.proofs.RowCells.{row_once, place_in_row}
use Rattle.k42_board.specs.Parts.{HasDue}
use Rattle.k42_rule.proofs.PartsDue.{first_note, many_parts, part_reached, parts_whole}
use Rattle.k42_mediator.specs.Parts.{parts_from}
use Rattle.k42_mediator.specs.Taken.{released}
use Rattle.turn_core.specs.Stamps.{last_stamp}
use Rattle.k42_mediator.proofs.GivenBack.{held_due, released_drawn}
use Rattle.k42_mediator.proofs.Logs.{log_now}
use Rattle.k42_mediator.proofs.NotesHanded.{part_at_once}
use Rattle.k42_mediator.proofs.NotesTold.{told_part}
use Rattle.k42_mediator.proofs.RowMoved.{length_made, take_made, at_of, in_take, in_drop, filled_numbers, filled_parts, filled_held, parts_noted}
use Rattle.k42_mediator.proofs.RowReady.{told_numbers}
use Rattle.k42_runtime.specs.Reaching.{HasTakenNext, MayGiveBack}
use Rattle.k42_runtime.specs.Serving.{object_inside, row_inside, IsCallAt, HasCells, HasMade}
use Rattle.k42_runtime.specs.Stepping.{MayStepCells, HasSteppedCells}
use Rattle.k42_runtime.proofs.CallTaken.{row_small, named_only, may_give}

pub served_inside : (place : Place) → is_served place ≡ true → IsInside place (object_of place) (row_of place)
served_inside (Direct o i) e = (refl, refl)
served_inside (Tracked o i) e = (refl, refl)
served_inside Out e = absurd (cc)
served_inside (Missed o i) e = absurd (cc)
served_inside (AtMediator o) e = absurd (cc)
served_inside (Blocked o) e = absurd (cc)

-- where none is due there is none
none_due : {S P O R : Type 0} (ways : Ways S P O R) (procs p : ℕ) (own : Option P) → HasDue ways procs p own None → own ≡ None
none_due ways procs p None is = refl
none_due ways procs p (Some part) is = absurd is

-- a list with one number is that of one cell
record IsSingle {P O R : Type 0} (cells : List (Content P O R)) (n : ℕ) : Type 0 where
  cell : Content P O R
  are : cells ≡ cell ∷ []
  number : cell.number ≡ n

abbrev first_of : List ℕ → ℕ
first_of [] = 0
first_of (n ∷ ns) = n

single : {P O R : Type 0} (cells : List (Content P O R)) (n : ℕ) → numbers_of cells ≡ n ∷ [] → IsSingle cells n
single [] n e = absurd (let long = ap length e in omega (arith, long))
single (c ∷ []) n e = record { cell = c; are = refl; number = ap first_of e }
single (c ∷ d ∷ cells) n e = absurd (let long = ap length e in omega (arith, long))

only : {P O R : Type 0} (Q : Content P O R → Type 0) (c : Content P O R) → Q c → EachPlace (λ place x. Q x) (c ∷ [])
only Q c q zero x e = subst Q (same_Some c x e) q
only Q c q (suc place) x e = absurd (cc)

-- a list of one is told what its cell is
pub told_alone : {P O R : Type 0} (notes : List (Note P O R)) (x y : Content P O R) → IsTold notes x y → AreTold notes (x ∷ []) (y ∷ [])
told_alone {P} {O} {R} notes x y is = (refl, each) where
  each : (k : ℕ) (a b : Content P O R) → slice_get (x ∷ []) k ≡ Some a → slice_get (y ∷ []) k ≡ Some b → IsTold notes a b
  each zero a b e f = subst (λ (z : Content P O R × Content P O R). IsTold notes z.0 z.1) (λ j. (same_Some x a e j, same_Some y b f j)) is
  each (suc k) a b e f = absurd (cc)

module _ {S L P O R : Type 0} (F : Layouts S L P O R) (declared : List L) (layout : L) (op : O) where
  -- cells are taken of the row that it is inside
  pub at_still : (reach : Reach) (cells others : List ℕ) (log : List Taken) (v w : PassView P O R) → released others w ≡ with_log log (released cells v)
      → IsCallAt F declared v layout reach op → IsCallAt F declared w layout reach op
  at_still reach cells others log v w e is = record {
    served = ap (λ (x : PassView P O R). is_served x.visitor.place) e ∙ is.served;
    few = subst (λ (x : PassView P O R). object_inside x < 16) (sym e) is.few;
    declaration = is.declaration;
    declares = ap (λ (x : PassView P O R). slice_get declared (object_inside x)) e ∙ is.declares;
    same = is.same;
    tagged = ap (λ (x : PassView P O R). x.layout) e ∙ is.tagged;
    known = is.known;
    on = subst (λ (x : PassView P O R). x.turn.proc < F.procs) (sym e) is.on;
    takes = is.takes;
    reaches = is.reaches ∙ ap (λ (x : PassView P O R). (F.ways_of layout).reach F.procs op x.turn.proc) (sym e);
  }

  -- the one cell is taken
  pub has_alone : (p n : ℕ) (v w : PassView P O R) (cell : Content P O R) → n ≡ cell_of (object_inside v) (row_inside v) p → IsCallAt F declared v layout (One p) op
      → HasTakenNext F declared n v w [] (cell ∷ []) → HasCells F declared w layout (One p) op (cell ∷ [])
  has_alone p n v w cell named is next = record {
    call = at_still (One p) [] (numbers_of (cell ∷ [])) w.log v w next.released_is is;
    numbers =
        next.numbers ∙ ap (λ m. m ∷ []) named
        ∙ ap (λ (x : PassView P O R). cell_of (object_inside x) (row_inside x) p ∷ []) (sym next.released_is);
    held = next.held;
    taken = next.taken;
    rows = next.rows;
    back = next.back;
  }

module _ {S L P O R : Type 0} (F : Layouts S L P O R) (laws : AreLaws F) (declared : List L)
    (agrees : (l m : L) → F.object_of l ≡ F.object_of m → F.tag_of l ≡ F.tag_of m
    → Agree (F.ways_of l) (F.ways_of m) (F.Whole l) (F.Whole m) (F.Serves l) (F.Serves m))
    (v : PassView P O R) (layout : L) (reach : Reach) (op : O) (cells : List (Content P O R)) (has : HasCells F declared v layout reach op cells)
    (procs_few : F.procs ≤ 8) where
  abbrev o : ℕ
  o = object_inside v

  abbrev i : ℕ
  i = row_inside v

  abbrev ways : Ways S P O R
  ways = F.ways_of layout

  abbrev many : ℕ
  many = cells_of (shape_of F layout) F.procs

  many_few : many ≤ F.procs
  many_few = few_cells (shape_of F layout) F.procs laws.some

  inside : IsInside v.visitor.place o i
  inside = served_inside v.visitor.place has.call.served

  row_is : IsRowNoted F declared v.notes o i (F.tag_of layout)
  row_is = has.rows.inside o i (F.tag_of layout) inside has.call.tagged

  -- where one cell is needed

  module _ (p : ℕ) (e : reach ≡ One p) where
    one : IsSingle cells (cell_of o i p)
    one = single cells (cell_of o i p) (has.numbers ∙ ap (cells_reached F.procs o i) e)

    here : IsHeld v.notes one.cell
    here = (has.taken 0 one.cell (ap (λ cs. slice_get cs 0) one.are)).held

    due_is : due_in ways F.procs p one.cell ≡ part_due ways F.procs v.notes o i p
    due_is =
        ap (λ own. unwrap_or own (ways.empty F.procs p))
        ((has.taken 0 one.cell (ap (λ cs. slice_get cs 0) one.are)).part ∙ ap (part_noted v.notes) one.number)

    within : p < F.procs
    within =
        let lt : p < many =
        subst (IsWithin many) (sym has.call.reaches ∙ e) (laws.reaches layout v.turn.proc op has.call.known has.call.on has.call.takes) in
        let few = many_few in omega (arith, lt, few)

    may_one : MayStepCells ways F.procs (F.Whole layout) many op (One p) cells
    may_one =
        subst (MayStepCells ways F.procs (F.Whole layout) many op (One p)) (sym one.are) (
          within,
          subst (λ part. IsReached ways (F.Whole layout) part op) (sym due_is)
              (part_reached F laws declared v.notes o i has.call.declaration layout has.call.declares has.call.same row_is agrees op v.turn.proc p has.call.on has.call.takes (sym has.call.reaches ∙ e)
              (ap (names (cells_noted v.notes)) (sym one.number) ∙ here.noted)),
        )

    stepped_one : (reply : R) (news : List (Content P O R)) → HasSteppedCells ways F.procs many op (One p) reply cells news
        → (reply ≡ ways.part_reply (due_in ways F.procs p one.cell) op) × (news ≡ stepped_at ways F.procs p op one.cell ∷ [])
    stepped_one reply news made = subst (λ cs. HasSteppedCells ways F.procs many op (One p) reply cs news) one.are made

    stepped_held : IsHeld v.notes (stepped_at ways F.procs p op one.cell)
    stepped_held = record { noted = here.noted; history = here.history; closed = here.closed }

  -- where all are needed

  module _ (e : reach ≡ All) where
    all_numbers : numbers_of cells ≡ row_cells F.procs o i
    all_numbers = has.numbers ∙ ap (cells_reached F.procs o i) e

    all_long : length cells ≡ F.procs
    all_long = sym (length-map cells (λ (content : Content P O R). content.number)) ∙ ap length all_numbers ∙ length_made (cell_of o i) 0 F.procs

    noted_at : (p : ℕ) → p < F.procs → names (cells_noted v.notes) (cell_of o i p) ≡ true
    noted_at p lt =
        let long = all_long in
        let at = at_of cells p (omega (arith, long, lt)) in
        let is = place_in_row cells F.procs o i all_numbers procs_few p at.0 at.1 in
        ap (names (cells_noted v.notes)) (sym is.0) ∙ (has.taken p at.0 at.1).held.noted

    noted_first : (p : ℕ) → p < many → names (cells_noted v.notes) (cell_of o i p) ≡ true
    noted_first p lt = let few = many_few in noted_at p (omega (arith, lt, few))

    -- the first cells have the parts that are due
    own_numbers : numbers_of (take many cells) ≡ made_from (cell_of o i) 0 many
    own_numbers =
        sym (take-map (λ (content : Content P O R). content.number) many cells) ∙ ap (take many) all_numbers
        ∙ take_made (cell_of o i) 0 F.procs many many_few

    parts_are : parts_from ways F.procs 0 (take many cells) ≡ parts_due ways F.procs v.notes o i (shape_of F layout)
    parts_are = parts_noted ways F.procs v o i 0 many (take many cells) own_numbers (λ k x at. has.taken k x (in_take many cells k x at))

    -- and those behind them none
    row_long : length row_is.row ≡ many
    row_long =
        many_parts F laws declared v.notes o i (F.tag_of layout) row_is
        ∙ ap (λ (shape : Shape). cells_of shape F.procs)
        (same_shape F laws row_is.layout layout
        (row_is.same ∙ ap F.object_of (same_Some row_is.declaration has.call.declaration (sym row_is.declares ∙ has.call.declares)) ∙ sym has.call.same) row_is.tagged)

    none_noted : (p : ℕ) → many ≤ p → p < F.procs → part_noted v.notes (cell_of o i p) ≡ None
    none_noted p le lt =
        let first = first_note v.notes (cell_of o i p) (noted_at p lt) in let long = row_long in
        first.part
        ∙ none_due (F.ways_of row_is.layout) F.procs p first.note.part
        (subst (HasDue (F.ways_of row_is.layout) F.procs p first.note.part) (part_at-beyond row_is.row p (omega (arith, le, long)))
        (row_is.parts first.place p first.note lt first.there first.named))

    none_behind : EachPlace (λ place (content : Content P O R). content.part ≡ None) (drop many cells)
    none_behind k content at =
        let there = in_drop many cells k content at in
        let is = place_in_row cells F.procs o i all_numbers procs_few (many + k) content there in
        (has.taken (many + k) content there).part ∙ ap (part_noted v.notes) is.0 ∙ none_noted (many + k) (omega arith) is.1

    whole : F.Whole layout F.procs (parts_from ways F.procs 0 (take many cells))
    whole =
        subst (F.Whole layout F.procs) (sym parts_are)
        (parts_whole F laws declared v.notes o i has.call.declaration layout has.call.declares has.call.same row_is agrees noted_first)

    may_all : MayStepCells ways F.procs (F.Whole layout) many op All cells
    may_all =
        let parts = parts_from ways F.procs 0 (take many cells) in
        let after : F.Whole layout F.procs (ways.row_after parts op) =
        subst (λ r. F.Whole layout F.procs (row_moved ways parts op r)) (sym has.call.reaches ∙ e) (laws.steps layout v.turn.proc parts op has.call.known has.call.on has.call.takes whole).whole in (
          record { sized = all_long; few = many_few; none = none_behind },
          record {
            some = laws.some;
            whole = whole;
            same = (laws.stands layout (ways.row_after parts op) has.call.known after).sized ∙ sym (laws.stands layout parts has.call.known whole).sized;
          },
        )

  pub may_step : MayStepCells ways F.procs (F.Whole layout) many op reach cells
  may_step = go reach refl where
    go : (r : Reach) → reach ≡ r → MayStepCells ways F.procs (F.Whole layout) many op r cells
    go (One p) e = may_one p e
    go All e = may_all e

  -- the cells, before and after

  pub once : names_once (numbers_of cells) ≡ true
  once = go reach refl where
    go : (r : Reach) → reach ≡ r → names_once (numbers_of cells) ≡ true
    go (One p) e = ap names_once (has.numbers ∙ ap (cells_reached F.procs o i) e)
    go All e = ap names_once (all_numbers e) ∙ row_once F.procs o i procs_few

  small : (n : ℕ) → names (numbers_of cells) n ≡ true → n < CELLS
  small n named = go reach refl where
    go : (r : Reach) → reach ≡ r → n < CELLS
    go (One p) e =
        let there = within p e in let few = procs_few in let object = has.call.few in
        let is : cell_of o i p ≡ n = named_only (cell_of o i p) n (ap (λ ns. names ns n) (sym (has.numbers ∙ ap (cells_reached F.procs o i) e)) ∙ named) in
        omega (arith, there, few, object, is)
    go All e = row_small F.procs o i n procs_few has.call.few (ap (λ ns. names ns n) (sym (all_numbers e)) ∙ named)

  pub may_give_taken : (id : ℕ) → MayGiveBack F declared id v cells
  may_give_taken id = may_give F declared laws id v cells once has.back has.held has.taken small

  module _ (reply : R) (news : List (Content P O R)) (made : HasSteppedCells ways F.procs many op reach reply cells news) where
    pub numbers_stepped : numbers_of news ≡ numbers_of cells
    numbers_stepped = go reach refl made where
      go : (r : Reach) → reach ≡ r → HasSteppedCells ways F.procs many op r reply cells news → numbers_of news ≡ numbers_of cells
      go (One p) e made' = ap numbers_of (stepped_one p e reply news made').1 ∙ ap numbers_of (sym (one p e).are)
      go All e made' = ap numbers_of made'.1 ∙ filled_numbers (ways.row_after (parts_from ways F.procs 0 (take many cells)) op) cells

    pub long_stepped : length news ≡ length cells
    long_stepped =
        sym (length-map news (λ (content : Content P O R). content.number)) ∙ ap length numbers_stepped ∙ length-map cells (λ (content : Content P O R). content.number)

    held_stepped : AreHeld v.notes news
    held_stepped = go reach refl made where
      go : (r : Reach) → reach ≡ r → HasSteppedCells ways F.procs many op r reply cells news → AreHeld v.notes news
      go (One p) e made' =
          subst (AreHeld v.notes) (sym (stepped_one p e reply news made').1)
          (only (IsHeld v.notes) (stepped_at ways F.procs p op (one p e).cell) (stepped_held p e))
      go All e made' =
          subst (AreHeld v.notes) (sym made'.1)
          (filled_held (ways.row_after (parts_from ways F.procs 0 (take many cells)) op) cells v (λ k x at. (has.taken k x at).held))

    stepped_is : IsStepped F declared layout v.notes o i news op reach reply
    stepped_is = go reach refl made where
      go : (r : Reach) → reach ≡ r → HasSteppedCells ways F.procs many op r reply cells news → IsStepped F declared layout v.notes o i news op r reply
      go (One p) e made' =
          let is = stepped_one p e reply news made' in let due = due_is p e in (
            is.0 ∙ ap (λ part. ways.part_reply part op) due,
            subst (EachPlace (λ place (content : Content P O R). content.part ≡ Some (ways.part_after (part_due ways F.procs v.notes o i p) op))) (sym is.1)
                (only (λ (content : Content P O R). content.part ≡ Some (ways.part_after (part_due ways F.procs v.notes o i p) op)) (stepped_at ways F.procs p op (one p e).cell)
                (ap (λ part. Some (ways.part_after part op)) due)),
          )
      go All e made' =
          let parts = parts_from ways F.procs 0 (take many cells) in let are = parts_are e in
          subst (λ ps. (reply ≡ ways.row_reply ps op) × HaveParts (ways.row_after ps op) news) are
          (made'.0, subst (HaveParts (ways.row_after parts op)) (sym made'.1) (filled_parts (ways.row_after parts op) cells))

    pub may_draw : length v.taker.mine < PASS_ENTRIES → MayDrawCall F declared news op reply v
    may_draw few = record {
      object = o;
      row = i;
      inside = inside;
      declaration = has.call.declaration;
      declares = has.call.declares;
      layout = layout;
      same = has.call.same;
      tagged = has.call.tagged;
      takes = has.call.takes;
      named = numbers_stepped ∙ has.numbers ∙ ap (cells_reached F.procs o i) has.call.reaches;
      held = held_stepped;
      stepped = subst (λ r. IsStepped F declared layout v.notes o i news op r reply) has.call.reaches stepped_is;
      few = few;
    }

    -- once the entry is drawn
    abbrev entry : Entry O R
    entry = entry_call v (numbers_of news) (Call op) (Replied reply)

    abbrev w : PassView P O R
    w = drawn_at news entry v

    part_is : (k : ℕ) (content : Content P O R) → slice_get news k ≡ Some content → part_noted w.notes content.number ≡ content.part
    part_is k content at =
        told_part (numbers_of news) entry (part_in news) v.notes content.number (held_stepped k content at).noted (each_named news k content at)
        ∙ part_at_once news k content (ap names_once numbers_stepped ∙ once) at

    pub may_give_drawn : (id : ℕ) (log : List Taken) (told : List (Content P O R)) → AreTold w.notes news told → MayGiveBack F declared id (with_log log w) told
    may_give_drawn id log told are =
        let same : numbers_of told ≡ numbers_of cells = told_numbers w.notes news told are ∙ numbers_stepped in
        record {
          once = ap names_once same ∙ once;
          back = has.back;
          ready = λ k content at.
              let lt = slice_get_within told k content at in let long = are.0 in
              let old = at_of news k (omega (arith, lt, long)) in
              let is = are.1 k old.0 content old.1 at in
              let named : names (numbers_of cells) content.number ≡ true = ap (λ ns. names ns content.number) (sym same) ∙ each_named told k content at in
              record {
                cell = small content.number named;
                holds = ap (λ ns. names ns content.number) has.held ∙ named;
                held = is.held;
                due = λ u alike there e.
                    held_due F laws declared id content.number content.part u there
                    (e ∙ ap (part_noted w.notes) is.number ∙ part_is k old.0 old.1 ∙ sym is.part);
              };
        }

    pub has_made : (word : ℕ) (new : PassView P O R) → last_stamp v.taker.mine < entry.stamp → new ≡ took steps.Draw word 0 w → HasMade (numbers_of cells) op reply v new
    has_made word new later e =
        let log = step_at steps.Draw word 0 ∷ v.log in
        record {
          entry = entry;
          next = record { later = later; whole = refl };
          knows =
              log_now (record (released (numbers_of cells) v) {
                taker = caller_drawn entry (released (numbers_of cells) v).taker;
                found = None;
                untold = [];
              }) (released (numbers_of cells) new) log
              ((λ j. released (sym numbers_stepped j) (e j)) ∙ ap (with_log log) (released_drawn news entry v)
              ∙ (λ j. with_log log (record (released (numbers_stepped j) v) {
                taker = caller_drawn entry (released (numbers_stepped j) v).taker;
                found = None;
                untold = [];
              })));
          log = extends_as (ap (λ (x : PassView P O R). x.log) e) (extends_one (step_at steps.Draw word 0) v.log refl);
        }
