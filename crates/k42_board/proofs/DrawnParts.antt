-- The parts that are due in the newest row of an object, as a pass has noted them, and those that are due after a draw.
use Rattle.std.proofs.Common.{◌≡◌, ◌≢◌, ℕ, ◌-◌, ◌<◌, ◌≤◌, Bool, true, false, cond, eqb, List, [], ◌∷◌, Option, Some, length, sym, refl, ap, ◌∙◌, subst, arith}
use Rattle.std.specs.List.{slice_get}
use Rattle.std.specs.Prelude.{option_map}
use Rattle.std.proofs.lemmas.Bool.{eqb-true, eq-eqb}
use Rattle.std.proofs.lemmas.Option.{same_Some, slice_get_within}
use mathlib.Core.Logic.{dite}
use native.Mathlib.Decide.{ℕ_discrete}
use mathlib.Core.Option.{some}
use lib.ListN.{get_elem?}
use Rattle.atomic_table.specs.Table.{State}
use Rattle.k42_kinds.specs.Rows.{part_at}
use Rattle.k42_kinds.specs.declared.entry.Entry.{Entry}
use Rattle.turn_core.specs.Events as turns
use Rattle.turn_core.specs.Events.{cell_told, caller_drawn}
use Rattle.turn_core.specs.Names.{names, names_once}
use Rattle.turn_core.specs.Plain.{Cell, Turns}
use Rattle.turn_core.specs.State.{cell_at, change_caller}
use Rattle.turn_core.specs.declared.event.TurnEvent.TheVariants.{Draw}
use Rattle.k42_stamp.specs.Chains.{Chain, Row, Turn, part_of, parts_of}
use Rattle.k42_stamp.specs.Laws.{AreLaws}
use Rattle.k42_stamp.specs.Layouts.{Layouts}
use Rattle.k42_stamp.specs.Parts.{part_steps}
use Rattle.k42_joined.specs.Effects.{effect}
use Rattle.k42_joined.specs.Event.{AtCells}
use Rattle.k42_joined.specs.Numbers.{cell_of, object_of, place_of}
use Rattle.k42_joined.specs.Plain.{Joined}
use Rattle.k42_joined.specs.Possible.{IsPossible}
use Rattle.k42_joined.specs.Rows.{AreRowsOf}
use Rattle.k42_joined.specs.State.{object, cell, many_objects, many_procs, many_hands}
use Rattle.k42_joined.proofs.AnswersRows.{RowsAt, rows_at, many_past}
use Rattle.k42_joined.proofs.CellChanges.{cell_at-else, cell_at-named}
use Rattle.k42_joined.proofs.CellNumbers.{object_of-cell, place_of-cell}
use Rattle.k42_joined.proofs.Following.{follows_draw, rows_stay}
use Rattle.k42_joined.proofs.OneChain.{rows_are_one}
use Rattle.k42_board.specs.Cells.{Slot, Contents, cells_noted}
use Rattle.k42_board.specs.Drawing.{history_noted, closed_noted, part_noted}
use Rattle.k42_board.specs.Parts.{HasDue, IsPart, row_in}
use Rattle.k42_board.specs.Rule.{KnowsPass, Rule}
use Rattle.k42_board.specs.declared.view.PassView.{PassView}
use Rattle.k42_board.specs.declared.view.View.{View}
use Rattle.k42_board.specs.declared.view.View.TheVariants.{Crew}
use Rattle.k42_board.proofs.CellsEvents.{note_there}
use Rattle.k42_board.proofs.Noted.{first_note}
use Rattle.k42_board.proofs.OnePass.{known}

-- the newest row has the number of the past ones
pub row_newest : {L P O R : Type 0} (x : Chain L P O R) (i : ℕ) → i ≡ length x.past → row_in x i ≡ Some x.row
row_newest {O} {R} x i same = ap (λ b. cond b (Some x.row) (option_map (λ (turn : Turn _ _ O R). turn.row) (slice_get x.past (length x.past - 1 - i)))) (eq-eqb i (length x.past) same)

pub row_before : {L P O R : Type 0} (x : Chain L P O R) (i : ℕ) → i ≢ length x.past → row_in x i ≡ option_map (λ (turn : Turn L P O R). turn.row) (slice_get x.past (length x.past - 1 - i))
row_before {O} {R} x i not = go (eqb i (length x.past)) refl where
  go : (b : Bool) → eqb i (length x.past) ≡ b → cond b (Some x.row) (option_map (λ (turn : Turn _ _ O R). turn.row) (slice_get x.past (length x.past - 1 - i))) ≡ option_map (λ (turn : Turn _ _ O R). turn.row) (slice_get x.past (length x.past - 1 - i))
  go false e = refl
  go true e = absurd (not (eqb-true i (length x.past) e))

module _ {S L P O R : Type 0} (F : Layouts S L P O R) (laws : AreLaws F) (declared : List L)
    (table : State (Slot P O R) (View P O R)) (r : Rule F declared table) (id : ℕ) (v : PassView P O R)
    (at : get_elem? table.views id ≡ some (Crew (v ∷ []))) where
  abbrev s : Joined L O R
  s = r.state

  abbrev c : ℕ
  c = v.number

  abbrev contents : Contents P
  contents = r.beside.contents

  k : KnowsPass F.tag_of s r.beside id v
  k = known F declared table r id v at

  -- a cell of which the pass has a note is as the first note says
  pub record IsAsNoted (n : ℕ) : Type 0 where
    pub there : n < length s.turns.cells
    pub held : (cell s n).lock ≡ Some c
    pub away : (cell s n).home ≡ false
    pub history : (cell s n).history ≡ history_noted v.notes n
    pub closed : (cell s n).closed ≡ closed_noted v.notes n
    pub part : contents.part n ≡ part_noted v.notes n

  pub as_noted : (n : ℕ) → names (cells_noted v.notes) n ≡ true → IsAsNoted n
  as_noted n e =
      let first = first_note v.notes n e in
      let is = k.cells.notes first.place first.note first.there in
      record {
        there = note_there F laws declared table r id v at n first.place first.note first.there first.named;
        held = ap (λ m. (cell s m).lock) (sym first.named) ∙ is.held;
        away = ap (λ m. (cell s m).home) (sym first.named) ∙ is.away;
        history = ap (λ m. (cell s m).history) (sym first.named) ∙ is.history ∙ sym first.history;
        closed = ap (λ m. (cell s m).closed) (sym first.named) ∙ is.closed ∙ sym first.closed;
        part = ap contents.part (sym first.named) ∙ is.part ∙ sym first.part;
      }

  -- the rows of an object that is there
  pub here : (o : ℕ) → o < many_objects s → RowsAt F laws declared s r.sound.cells.turns r.sound.cells.locks r.sound.cells.rows r.sound.answers o
  here o named = rows_at F laws declared s r.sound.cells.turns r.sound.cells.locks r.sound.cells.rows r.sound.answers o named

  pub rows_here : (o : ℕ) (named : o < many_objects s) (declaration : L) → slice_get declared o ≡ Some declaration → AreRowsOf F declaration s o (here o named).chain
  rows_here o named declaration declares =
      subst (λ d. AreRowsOf F d s o (here o named).chain) (same_Some (here o named).declaration declaration (sym (here o named).declares ∙ declares)) (here o named).has.rows

  pub past_here : (o : ℕ) (named : o < many_objects s) → length (here o named).chain.past ≡ many_hands s o
  past_here o named =
      many_past F laws declared s r.sound.cells.turns r.sound.cells.locks r.sound.cells.rows r.sound.answers o (here o named).declaration (here o named).chain (here o named).has

  few_places : many_procs s ≤ 8
  few_places = r.sound.cells.locks.many.few_procs

  -- what is due at a noted cell of the newest row
  pub due_noted : (o i p : ℕ) (named : o < many_objects s) → p < many_procs s → names (cells_noted v.notes) (cell_of o i p) ≡ true
      → (cell s (cell_of o i p)).life ≡ many_hands s o → (object s o).freed ≤ many_hands s o
      → HasDue (F.ways_of (here o named).chain.row.layout) F.procs p (part_noted v.notes (cell_of o i p)) (part_of F (here o named).chain.row p)
  due_noted o i p named lt noted life kept =
      let n = cell_of o i p in
      let few : p < 8 = let most = few_places in omega (arith, lt, most) in
      let is = as_noted n noted in
      let rows = here o named in
      let object_is : object_of n ≡ o = object_of-cell o i p few in
      let place_is : place_of n ≡ p = place_of-cell o i p few in
      let part = (r.parts n is.there).due rows.declaration rows.chain rows.chain.row
      (ap (slice_get declared) object_is ∙ rows.declares)
      (subst (λ q. AreRowsOf F rows.declaration s q rows.chain) (sym object_is) rows.has.rows)
      (row_newest rows.chain (cell s n).life (life ∙ sym (past_here o named)))
      (subst (λ q. (object s q).freed ≤ (cell s n).life) (sym object_is) (subst (λ l. (object s o).freed ≤ l) (sym life) kept)) in
      subst (λ (z : Option P × ℕ). HasDue (F.ways_of rows.chain.row.layout) F.procs z.1 z.0 (part_of F rows.chain.row z.1)) (λ j. (is.part j, place_is j)) part

  -- a draw at cells of the newest row
  module _ (cells : List ℕ) (entry : Entry O R) (fresh : ℕ → Option P) (possible : IsPossible F declared s (AtCells (Draw c cells entry)))
      (once : names_once cells ≡ true) (there : (n : ℕ) → names cells n ≡ true → n < length s.turns.cells)
      (o : ℕ) (named : o < many_objects s) (object_is : entry.object ≡ o)
      (of_object : (n : ℕ) → names cells n ≡ true → (object_of n ≡ o) × ((cell s n).life ≡ many_hands s o)) where
    abbrev t : Turns O R
    t = turns.effect s.turns (Draw c cells entry)

    abbrev base : Turns O R
    base = change_caller (caller_drawn entry) s.turns c

    abbrev after : Joined L O R
    after = effect s (AtCells (Draw c cells entry))

    abbrev row : Row L P O R
    row = (here o named).chain.row

    abbrev part_after : ℕ → Option P
    part_after n = cond (names cells n) (fresh n) (contents.part n)

    life_stays : (n : ℕ) → (cell_at t n).life ≡ (cell s n).life
    life_stays n = go (names cells n) refl where
      go : (b : Bool) → names cells n ≡ b → (cell_at t n).life ≡ (cell s n).life
      go true e = ap (λ (x : Cell O R). x.life) (cell_at-named (cell_told entry) base cells n once (there n e) e)
      go false e = ap (λ (x : Cell O R). x.life) (cell_at-else (cell_told entry) base cells n e)

    unnamed : (n : ℕ) → ((object_of n ≡ o) × ((cell s n).life ≡ many_hands s o) → ⊥) → names cells n ≡ false
    unnamed n not = go (names cells n) refl where
      go : (b : Bool) → names cells n ≡ b → b ≡ false
      go false e = refl
      go true e = absurd (not (of_object n e))

    -- what the parts owe to the row's steps
    pub Moved : Type 0
    Moved =
        (n : ℕ) → n < length s.turns.cells → object_of n ≡ o → (cell s n).life ≡ many_hands s o
        → HasDue (F.ways_of row.layout) F.procs (place_of n) (contents.part n) (part_of F row (place_of n))
        → HasDue (F.ways_of row.layout) F.procs (place_of n) (part_after n) (part_at ((part_steps F row.layout).moves (parts_of F row) entry) (place_of n))

    module _ (moved : (n : ℕ) → n < length s.turns.cells → object_of n ≡ o → (cell s n).life ≡ many_hands s o
        → HasDue (F.ways_of row.layout) F.procs (place_of n) (contents.part n) (part_of F row (place_of n))
        → HasDue (F.ways_of row.layout) F.procs (place_of n) (part_after n) (part_at ((part_steps F row.layout).moves (parts_of F row) entry) (place_of n))) where
      module _ (n : ℕ) (lt : n < length s.turns.cells) (declaration : L) (declares : slice_get declared (object_of n) ≡ Some declaration)
          (y : Chain L P O R) (row' : Row L P O R) (is : AreRowsOf F declaration after (object_of n) y) (at_life : row_in y (cell_at t n).life ≡ Some row')
          (freed : (object s (object_of n)).freed ≤ (cell_at t n).life) where
        life : (cell_at t n).life ≡ (cell s n).life
        life = life_stays n

        kept : (object s (object_of n)).freed ≤ (cell s n).life
        kept = subst (λ l. (object s (object_of n)).freed ≤ l) life freed

        at_old : row_in y (cell s n).life ≡ Some row'
        at_old = ap (row_in y) (sym life) ∙ at_life

        old : (x : Chain L P O R) (q : Row L P O R) → AreRowsOf F declaration s (object_of n) x → row_in x (cell s n).life ≡ Some q
            → HasDue (F.ways_of q.layout) F.procs (place_of n) (contents.part n) (part_of F q (place_of n))
        old x q was here' = (r.parts n lt).due declaration x q declares was here' kept

        -- a cell that is not of the row
        same_part : (x : Chain L P O R) → AreRowsOf F declaration s (object_of n) x → row_in x (cell s n).life ≡ Some row' → names cells n ≡ false
            → HasDue (F.ways_of row'.layout) F.procs (place_of n) (part_after n) (part_of F row' (place_of n))
        same_part x was here' not =
            subst (λ b. HasDue (F.ways_of row'.layout) F.procs (place_of n) (cond b (fresh n) (contents.part n)) (part_of F row' (place_of n))) (sym not)
            (old x row' was here')

        other : object_of n ≢ o → HasDue (F.ways_of row'.layout) F.procs (place_of n) (part_after n) (part_of F row' (place_of n))
        other apart =
            let within : object_of n < many_objects s = rw (← r.sound.cells.rows.objects) (slice_get_within declared (object_of n) declaration declares) in
            let x = (here (object_of n) within).chain in
            let was = rows_here (object_of n) within declaration declares in
            let stay = rows_stay F laws declared s r.sound (object_of n) declaration x was (AtCells (Draw c cells entry)) possible
            (λ e. apart (same_Some (object_of n) o (sym e ∙ ap Some object_is))) in
            let one : x ≡ y = rows_are_one F laws declaration after (object_of n) x y stay is in
            same_part x was (subst (λ z. row_in z (cell s n).life ≡ Some row') (sym one) at_old) (unnamed n (λ is'. apart is'.0))

        own : object_of n ≡ o → HasDue (F.ways_of row'.layout) F.procs (place_of n) (part_after n) (part_of F row' (place_of n))
        own same =
            let x = (here o named).chain in
            let declares' : slice_get declared o ≡ Some declaration = ap (slice_get declared) (sym same) ∙ declares in
            let was : AreRowsOf F declaration s o x = rows_here o named declaration declares' in
            let is' : AreRowsOf F declaration after o y = subst (λ q. AreRowsOf F declaration after q y) same is in
            let follows = follows_draw F laws declared s r.sound o declaration declares' x y was c cells entry possible object_is is' in
            let was' : AreRowsOf F declaration s (object_of n) x = subst (λ q. AreRowsOf F declaration s q x) (sym same) was in
            dite (ℕ_discrete (cell s n).life (many_hands s o))
            (λ newest.
            let long : (cell s n).life ≡ length x.past = newest ∙ sym (past_here o named) in
            let row_is : y.row ≡ row' = same_Some y.row row' (sym (row_newest y (cell s n).life (long ∙ ap length (sym follows.past))) ∙ at_old) in
            let due = old x x.row was' (row_newest x (cell s n).life long) in
            let due' = moved n lt same newest due in
            subst (λ (q : Row L P O R). HasDue (F.ways_of q.layout) F.procs (place_of n) (part_after n) (part_of F q (place_of n))) row_is
            (subst (λ (z : L × List P). HasDue (F.ways_of z.0) F.procs (place_of n) (part_after n) (part_at z.1 (place_of n)))
            (λ j. (sym follows.layout j, sym follows.parts j)) due'))
            (λ further.
            let apart : (cell s n).life ≢ length x.past = λ e. further (e ∙ past_here o named) in
            let apart' : (cell s n).life ≢ length y.past = λ e. apart (e ∙ ap length follows.past) in
            let old_row : row_in x (cell s n).life ≡ Some row' =
            row_before x (cell s n).life apart
            ∙ ap (λ (past : List (Turn L P O R)). option_map (λ (turn : Turn L P O R). turn.row) (slice_get past (length past - 1 - (cell s n).life))) (sym follows.past)
            ∙ sym (row_before y (cell s n).life apart') ∙ at_old in
            same_part x was' old_row (unnamed n (λ is''. further is''.1)))

      pub parts_drawn : (n : ℕ) → n < length s.turns.cells → IsPart F declared after n (part_after n)
      parts_drawn n lt = record {
        due = λ declaration y row' declares is at_life freed.
            dite (ℕ_discrete (object_of n) o)
            (own n lt declaration declares y row' is at_life freed)
            (other n lt declaration declares y row' is at_life freed);
        before = λ ahead.
            let ahead' : many_hands s (object_of n) < (cell s n).life = subst (λ l. many_hands s (object_of n) < l) (life_stays n) ahead in
            let not : names cells n ≡ false = unnamed n (λ is. let life = is.1 in let same = ap (many_hands s) is.0 in omega (arith, ahead', life, same)) in
            ap (λ b. cond b (fresh n) (contents.part n)) not ∙ (r.parts n lt).before ahead';
      }
