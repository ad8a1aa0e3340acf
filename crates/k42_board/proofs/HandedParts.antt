-- The parts that are due once a row was handed on.
use Rattle.std.proofs.Common.{◌≡◌, ◌≢◌, ℕ, suc, ◌+◌, ◌-◌, ◌<◌, ◌≤◌, Bool, true, false, cond, List, [], ◌∷◌, Option, Some, None, length, sym, refl, ap, ◌∙◌, subst, inr, ⊎_elim, arith}
use Rattle.std.specs.List.{slice_get}
use Rattle.std.specs.Prelude.{option_map}
use Rattle.std.proofs.lemmas.Bool.{cases_lt}
use Rattle.std.proofs.lemmas.Option.{same_Some, slice_get_within}
use mathlib.Core.Logic.{dite}
use native.Mathlib.Decide.{ℕ_discrete}
use mathlib.Core.Option.{some}
use lib.ListN.{get_elem?}
use Rattle.k42_shapes.proofs.ShapeLaws.{few_cells}
use Rattle.atomic_table.specs.Table.{State}
use Rattle.k42_kinds.specs.Rows.{part_at}
use Rattle.k42_kinds.specs.declared.entry.Entry.{Entry}
use Rattle.turn_core.specs.Names.{names}
use Rattle.turn_core.specs.Plain.{Cell}
use Rattle.k42_stamp.specs.Chains.{Chain, Row, Turn, part_of, parts_of, state_of}
use Rattle.k42_stamp.specs.Laws.{AreLaws}
use Rattle.k42_stamp.specs.Layouts.{Layouts, shape_of}
use Rattle.k42_stamp.proofs.PartsAfter.{parts_sized}
use Rattle.k42_joined.specs.Effects.{effect}
use Rattle.k42_joined.specs.Event.{HandWith}
use Rattle.k42_joined.specs.Following.{FollowsHand}
use Rattle.k42_joined.specs.Numbers.{cell_of, object_of, place_of, row_cells}
use Rattle.k42_joined.specs.Plain.{Joined}
use Rattle.k42_joined.specs.Possible.{IsPossible}
use Rattle.k42_joined.specs.Locks.{AreOfLives}
use Rattle.k42_joined.specs.Rows.{AreRowsOf, history_in}
use Rattle.k42_joined.specs.State.{object, cell, cell_in, incarnation, many_objects, many_procs, many_hands}
use Rattle.k42_joined.proofs.CellNumbers.{object_of-cell, place_of-cell, named_in_row, row_names}
use Rattle.k42_joined.proofs.Following.{follows_hand, rows_stay}
use Rattle.k42_joined.proofs.LocksHand.{apart_row, hands_now, at_present, at_next, at_unnamed, hands_else, hands_after}
use Rattle.k42_joined.proofs.LocksLives.{cell_begins}
use Rattle.k42_joined.proofs.OneChain.{rows_are_one}
use Rattle.k42_board.specs.Cells.{Slot, Contents}
use Rattle.k42_board.specs.Parts.{HasDue, IsPart, row_in}
use Rattle.k42_board.specs.Rule.{Rule}
use Rattle.k42_board.specs.declared.view.PassView.{PassView}
use Rattle.k42_board.specs.declared.view.View.{View}
use Rattle.k42_board.specs.declared.view.View.TheVariants.{Crew}
use Rattle.k42_board.proofs.DrawnParts.{row_newest, row_before, here, rows_here, past_here}
use Rattle.k42_board.proofs.RowCells.{of_parity, no_part, due_self}

-- the rows of a chain to which one was added

abbrev row_of_turn : {L P O R : Type 0} → Turn L P O R → Row L P O R
row_of_turn turn = turn.row

pub row_last : {L P O R : Type 0} (x y : Chain L P O R) (done : Entry O R) (j : ℕ) → y.past ≡ record { row = x.row; done = done } ∷ x.past → length x.past ≤ j → j ≢ suc (length x.past)
    → row_in y j ≡ Some x.row
row_last {O} {R} x y done j past low not =
    let long : length y.past ≡ suc (length x.past) = ap length past in
    let none : suc (length x.past) - 1 - j ≡ 0 = omega (arith, low) in
    row_before y j (λ e. not (e ∙ long))
    ∙ ap (λ (turns : List (Turn _ _ O R)). option_map row_of_turn (slice_get turns (length turns - 1 - j))) past
    ∙ ap (λ n. option_map row_of_turn (slice_get (record { row = x.row; done = done } ∷ x.past) n)) none

pub row_older : {L P O R : Type 0} (x y : Chain L P O R) (done : Entry O R) (j : ℕ) → y.past ≡ record { row = x.row; done = done } ∷ x.past → j < length x.past
    → row_in y j ≡ row_in x j
row_older {O} {R} x y done j past less =
    let long : length y.past ≡ suc (length x.past) = ap length past in
    let further : suc (length x.past) - 1 - j ≡ suc (length x.past - 1 - j) = omega (arith, less) in
    row_before y j (λ e. omega (arith, e, long, less))
    ∙ ap (λ (turns : List (Turn _ _ O R)). option_map row_of_turn (slice_get turns (length turns - 1 - j))) past
    ∙ ap (λ n. option_map row_of_turn (slice_get (record { row = x.row; done = done } ∷ x.past) n)) further
    ∙ sym (row_before x j (λ e. omega (arith, e, less)))

module _ {S L P O R : Type 0} (F : Layouts S L P O R) (laws : AreLaws F) (declared : List L)
    (table : State (Slot P O R) (View P O R)) (r : Rule F declared table) (id : ℕ) (v : PassView P O R)
    (at : get_elem? table.views id ≡ some (Crew (v ∷ []))) (from onto : List ℕ) (to : L) (entry : Entry O R) (fresh : ℕ → Option P)
    (possible : IsPossible F declared r.state (HandWith v.number from onto to entry)) (named : entry.object < many_objects r.state) where
  abbrev s : Joined L O R
  s = r.state

  abbrev c : ℕ
  c = v.number

  abbrev o : ℕ
  o = entry.object

  abbrev i : ℕ
  i = incarnation s o

  abbrev procs : ℕ
  procs = many_procs s

  abbrev contents : Contents P
  contents = r.beside.contents

  abbrev t : Joined L O R
  t = effect s (HandWith c from onto to entry)

  abbrev x : Chain L P O R
  x = (here F laws declared table r id v at o named).chain

  abbrev pub part_after : ℕ → Option P
  part_after n = cond (names from n) (fresh n) (cond (names onto n) (fresh n) (contents.part n))

  few : procs ≤ 8
  few = r.sound.cells.locks.many.few_procs

  same_procs : F.procs ≡ procs
  same_procs = r.sound.cells.rows.told.procs

  hands_are : many_hands s o ≡ i
  hands_are = hands_now F declared s r.sound.cells.locks c from onto to entry possible.may named

  long : length x.past ≡ i
  long = past_here F laws declared table r id v at o named ∙ hands_are

  -- which cells are named

  in_from : (p : ℕ) → p < procs → names from (cell_of o i p) ≡ true
  in_from p lt = ap (λ cells. names cells (cell_of o i p)) possible.may.beside.closes ∙ row_names procs o i p lt

  in_onto : (p : ℕ) → p < procs → names onto (cell_of o (i + 1) p) ≡ true
  in_onto p lt = ap (λ cells. names cells (cell_of o (i + 1) p)) possible.may.beside.begins ∙ row_names procs o (i + 1) p lt

  not_from : (p : ℕ) → p < procs → names from (cell_of o (i + 1) p) ≡ false
  not_from p lt =
      ap (λ cells. names cells (cell_of o (i + 1) p)) possible.may.beside.closes
      ∙ apart_row procs o i o (i + 1) p few lt (inr (λ e. omega (arith, e)))

  unnamed : (j n : ℕ) → (object_of n ≡ o → place_of n < procs → ⊥) → names (row_cells procs o j) n ≡ false
  unnamed j n not = go (names (row_cells procs o j) n) refl where
    go : (b : Bool) → names (row_cells procs o j) n ≡ b → b ≡ false
    go false e = refl
    go true e =
        let is = named_in_row procs o j n e in
        let high = is.high in
        let small : is.place < 8 = let most = few in omega (arith, high, most) in
        let place : place_of n ≡ is.place = ap place_of is.same ∙ place_of-cell o j is.place small in
        absurd (not (ap object_of is.same ∙ object_of-cell o j is.place small) (omega (arith, place, high)))

  record IsElse (n : ℕ) : Type 0 where
    unclosed : names from n ≡ false
    unbegun : names onto n ≡ false

  else_is : (n : ℕ) → (object_of n ≡ o → place_of n < procs → ⊥) → IsElse n
  else_is n not = record {
    unclosed = ap (λ cells. names cells n) possible.may.beside.closes ∙ unnamed i n not;
    unbegun = ap (λ cells. names cells n) possible.may.beside.begins ∙ unnamed (i + 1) n not;
  }

  part_closed : (n : ℕ) → names from n ≡ true → part_after n ≡ fresh n
  part_closed n e = ap (λ b. cond b (fresh n) (cond (names onto n) (fresh n) (contents.part n))) e

  part_begun : (n : ℕ) → names from n ≡ false → names onto n ≡ true → part_after n ≡ fresh n
  part_begun n not e =
      ap (λ b. cond b (fresh n) (cond (names onto n) (fresh n) (contents.part n))) not ∙ ap (λ b. cond b (fresh n) (contents.part n)) e

  part_else : (n : ℕ) → IsElse n → part_after n ≡ contents.part n
  part_else n is =
      ap (λ b. cond b (fresh n) (cond (names onto n) (fresh n) (contents.part n))) is.unclosed ∙ ap (λ b. cond b (fresh n) (contents.part n)) is.unbegun

  -- lives

  lives : (p : ℕ) → p < procs → AreOfLives i false (cell_in s o i p) (cell_in s o (i + 1) p)
  lives p lt = subst (λ b. AreOfLives i b (cell_in s o i p) (cell_in s o (i + 1) p)) possible.may.beside.once (r.sound.cells.locks.lives o p named lt)

  life_closed : (p : ℕ) → p < procs → (cell t (cell_of o i p)).life ≡ i
  life_closed p lt =
      ap (λ (z : Cell O R). z.life) (at_present F declared s r.sound.cells.locks c from onto to entry possible.may named p lt) ∙ (lives p lt).present.life

  life_begun : (p : ℕ) → p < procs → (cell t (cell_of o (i + 1) p)).life ≡ i + 1
  life_begun p lt =
      ap (λ (z : Cell O R). z.life) (at_next F declared s r.sound.cells.locks c from onto to entry possible.may named p lt)
      ∙ (cell_begins i (cell_in s o i p) (cell_in s o (i + 1) p) entry (lives p lt)).life

  life_else : (n : ℕ) → IsElse n → (cell t n).life ≡ (cell s n).life
  life_else n is = ap (λ (z : Cell O R). z.life) (at_unnamed F declared s r.sound.cells.locks c from onto to entry possible.may named n is.unclosed is.unbegun)

  -- the hand leaves the parts of the row, and begins the next with what its layout imports
  pub record Hands : Type 0 where
    pub closes : (p : ℕ) → p < procs → HasDue (F.ways_of x.row.layout) F.procs p (fresh (cell_of o i p)) (part_of F x.row p)
    pub begins :
        (p : ℕ) → p < procs
        → fresh (cell_of o (i + 1) p) ≡ part_at ((F.ways_of to).imported F.procs (F.admitted to (state_of F x.row))) p

  module _ (hands : Hands) where
    module _ (n : ℕ) (lt : n < length s.turns.cells) (declaration : L) (declares : slice_get declared (object_of n) ≡ Some declaration)
        (y : Chain L P O R) (row' : Row L P O R) (is : AreRowsOf F declaration t (object_of n) y) (at_life : row_in y (cell t n).life ≡ Some row')
        (freed : (object s (object_of n)).freed ≤ (cell t n).life) where
      abbrev Due : Type 0
      Due = HasDue (F.ways_of row'.layout) F.procs (place_of n) (part_after n) (part_of F row' (place_of n))

      -- a cell that is not named, where its row was there
      same_part : (z : Chain L P O R) → AreRowsOf F declaration s (object_of n) z → row_in z (cell s n).life ≡ Some row' → IsElse n → Due
      same_part z was here' else =
          let life = life_else n else in
          subst (λ part. HasDue (F.ways_of row'.layout) F.procs (place_of n) part (part_of F row' (place_of n))) (sym (part_else n else))
          ((r.parts n lt).due declaration z row' declares was here' (subst (λ l. (object s (object_of n)).freed ≤ l) life freed))

      other : object_of n ≢ o → Due
      other apart =
          let else = else_is n (λ same place. apart same) in
          let within : object_of n < many_objects s = rw (← r.sound.cells.rows.objects) (slice_get_within declared (object_of n) declaration declares) in
          let z = (here F laws declared table r id v at (object_of n) within).chain in
          let was = rows_here F laws declared table r id v at (object_of n) within declaration declares in
          let stay = rows_stay F laws declared s r.sound (object_of n) declaration z was (HandWith c from onto to entry) possible
          (λ e. apart (same_Some (object_of n) o (sym e))) in
          let one : z ≡ y = rows_are_one F laws declaration t (object_of n) z y stay is in
          same_part z was (ap (row_in z) (sym (life_else n else)) ∙ ap (λ q. row_in q (cell t n).life) one ∙ at_life) else

      module _ (same : object_of n ≡ o) where
        declares' : slice_get declared o ≡ Some declaration
        declares' = ap (slice_get declared) (sym same) ∙ declares

        was : AreRowsOf F declaration s o x
        was = rows_here F laws declared table r id v at o named declaration declares'

        is' : AreRowsOf F declaration t o y
        is' = subst (λ q. AreRowsOf F declaration t q y) same is

        follows : FollowsHand F to entry x y
        follows = follows_hand F laws declared s r.sound o declaration declares' x y was c from onto to entry possible refl is'

        long_after : i + 1 ≡ length y.past
        long_after = let l = long in let more = ap length follows.past in omega (arith, l, more)

        sized_before : length (parts_of F x.row) ≤ F.procs
        sized_before =
            let sized = parts_sized F laws declaration o (history_in s o) x was.fits in
            let most = few_cells (shape_of F x.row.layout) F.procs laws.some in omega (arith, sized, most)

        sized_after : length (parts_of F y.row) ≤ F.procs
        sized_after =
            let sized = parts_sized F laws declaration o (history_in t o) y is'.fits in
            let most = few_cells (shape_of F y.row.layout) F.procs laws.some in omega (arith, sized, most)

        -- a cell of the row that was handed on
        closed_due : place_of n < procs → n ≡ cell_of o i (place_of n) → Due
        closed_due place here' =
            let p = place_of n in
            let life : (cell t n).life ≡ i = ap (λ m. (cell t m).life) here' ∙ life_closed p place in
            let l = long in
            let row_is : x.row ≡ row' = same_Some x.row row' (sym (row_last x y entry i follows.past (omega (arith, l)) (λ e. omega (arith, e, l))) ∙ ap (row_in y) (sym life) ∙ at_life) in
            let part : part_after n ≡ fresh (cell_of o i p) = part_closed n (ap (names from) here' ∙ in_from p place) ∙ ap fresh here' in
            subst (λ (q : Row L P O R). HasDue (F.ways_of q.layout) F.procs p (part_after n) (part_of F q p)) row_is
            (subst (λ part. HasDue (F.ways_of x.row.layout) F.procs p part (part_of F x.row p)) (sym part) (hands.closes p place))

        -- a cell of the next row
        begun_due : place_of n < procs → n ≡ cell_of o (i + 1) (place_of n) → Due
        begun_due place here' =
            let p = place_of n in
            let life : (cell t n).life ≡ i + 1 = ap (λ m. (cell t m).life) here' ∙ life_begun p place in
            let row_is : y.row ≡ row' = same_Some y.row row' (sym (row_newest y (i + 1) long_after) ∙ ap (row_in y) (sym life) ∙ at_life) in
            let part : part_after n ≡ part_of F y.row p =
            part_begun n (ap (names from) here' ∙ not_from p place) (ap (names onto) here' ∙ in_onto p place) ∙ ap fresh here' ∙ hands.begins p place
            ∙ ap (λ parts. part_at parts p) (sym follows.parts) in
            subst (λ (q : Row L P O R). HasDue (F.ways_of q.layout) F.procs p (part_after n) (part_of F q p)) row_is
            (subst (λ own. HasDue (F.ways_of y.row.layout) F.procs p own (part_of F y.row p)) (sym part) (due_self (F.ways_of y.row.layout) F.procs p (part_of F y.row p)))

        -- a cell beyond the processors has none
        none_due : procs ≤ place_of n → i < (cell s n).life → (z : Chain L P O R) → length (parts_of F z.row) ≤ F.procs → z.row ≡ row' → IsElse n → Due
        none_due beyond ahead z sized row_is else =
            let p = place_of n in
            let same' = same_procs in
            let hands' : many_hands s (object_of n) ≡ i = ap (many_hands s) same ∙ hands_are in
            let part : part_after n ≡ None = part_else n else ∙ (r.parts n lt).before (subst (λ h. h < (cell s n).life) (sym hands') ahead) in
            let due : part_of F z.row p ≡ None = no_part (parts_of F z.row) p (omega (arith, sized, beyond, same')) in
            subst (λ (q : Row L P O R). HasDue (F.ways_of q.layout) F.procs p (part_after n) (part_of F q p)) row_is
            (subst (λ (k : Option P × Option P). HasDue (F.ways_of z.row.layout) F.procs p k.0 k.1) (λ j. (sym part j, sym due j)) tt)

        beyond_due : procs ≤ place_of n → Due
        beyond_due beyond =
            let else = else_is n (λ object place. omega (arith, beyond, place)) in
            let life = life_else n else in
            let l = long in
            let at_old : row_in y (cell s n).life ≡ Some row' = ap (row_in y) (sym life) ∙ at_life in
            let was' : AreRowsOf F declaration s (object_of n) x = subst (λ q. AreRowsOf F declaration s q x) (sym same) was in
            dite (ℕ_discrete (cell s n).life (i + 1))
            (λ next.
            let row_is : y.row ≡ row' = same_Some y.row row' (sym (row_newest y (cell s n).life (next ∙ long_after)) ∙ at_old) in
            none_due beyond (omega (arith, next)) y sized_after row_is else)
            (λ apart.
            ⊎_elim
            (λ (less : (cell s n).life < i).
            same_part x was' (sym (row_older x y entry (cell s n).life follows.past (omega (arith, less, l))) ∙ at_old) else)
            (λ (low : i ≤ (cell s n).life).
            let last = row_last x y entry (cell s n).life follows.past (omega (arith, low, l)) (λ e. apart (omega (arith, e, l))) in
            let row_is : x.row ≡ row' = same_Some x.row row' (sym last ∙ at_old) in
            dite (ℕ_discrete (cell s n).life i)
            (λ present. same_part x was' (row_newest x (cell s n).life (present ∙ sym l) ∙ ap Some row_is) else)
            (λ further. none_due beyond (omega (arith, low, further)) x sized_before row_is else))
            (cases_lt (cell s n).life i))

        own : Due
        own =
            ⊎_elim
            (λ (place : place_of n < procs). ⊎_elim (closed_due place) (begun_due place) (of_parity n o i same))
            beyond_due
            (cases_lt (place_of n) procs)

    -- before its row begins a cell has none
    before_own : (n : ℕ) → n < length s.turns.cells → object_of n ≡ o → many_hands t (object_of n) < (cell t n).life → part_after n ≡ None
    before_own n lt same ahead =
        let after : many_hands t (object_of n) ≡ i + 1 = ap (many_hands t) same ∙ hands_after F declared s r.sound.cells.locks c from onto to entry possible.may named in
        ⊎_elim
        (λ (place : place_of n < procs).
        ⊎_elim
        (λ (here' : n ≡ cell_of o i (place_of n)).
        let life : (cell t n).life ≡ i = ap (λ m. (cell t m).life) here' ∙ life_closed (place_of n) place in absurd (omega (arith, ahead, after, life)))
        (λ (here' : n ≡ cell_of o (i + 1) (place_of n)).
        let life : (cell t n).life ≡ i + 1 = ap (λ m. (cell t m).life) here' ∙ life_begun (place_of n) place in absurd (omega (arith, ahead, after, life)))
        (of_parity n o i same))
        (λ (beyond : procs ≤ place_of n).
        let else = else_is n (λ object place. omega (arith, beyond, place)) in
        let life = life_else n else in
        let hands' : many_hands s (object_of n) ≡ i = ap (many_hands s) same ∙ hands_are in
        part_else n else ∙ (r.parts n lt).before (omega (arith, ahead, after, life, hands')))
        (cases_lt (place_of n) procs)

    before_other : (n : ℕ) → n < length s.turns.cells → object_of n ≢ o → many_hands t (object_of n) < (cell t n).life → part_after n ≡ None
    before_other n lt apart ahead =
        let else = else_is n (λ same place. apart same) in
        let life = life_else n else in
        let hands' : many_hands t (object_of n) ≡ many_hands s (object_of n) = ap length (hands_else F declared s r.sound.cells.locks c from onto to entry possible.may named (object_of n) apart) in
        part_else n else ∙ (r.parts n lt).before (omega (arith, ahead, life, hands'))

    pub parts_handed : (n : ℕ) → n < length s.turns.cells → IsPart F declared t n (part_after n)
    parts_handed n lt = record {
      due = λ declaration y row' declares is at_life freed.
          dite (ℕ_discrete (object_of n) o)
          (own n lt declaration declares y row' is at_life freed)
          (other n lt declaration declares y row' is at_life freed);
      before = λ ahead. dite (ℕ_discrete (object_of n) o) (λ same. before_own n lt same ahead) (λ apart. before_other n lt apart ahead);
    }
