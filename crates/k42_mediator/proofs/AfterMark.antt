-- What a pass knows once it has drawn that its object is over.
use Rattle.std.proofs.Common.{◌≡◌, ℕ, ◌+◌, ◌-◌, ◌<◌, Bool, true, false, ◌||◌, cond, eqb, List, [], ◌∷◌, ◌++◌, Some, None, length, refl, sym, ap, ◌∙◌, subst, arith}
use Rattle.std.proofs.lemmas.Bool.{eq-eqb}
use Rattle.std.proofs.lemmas.Option.{same_Some}
use Rattle.k42_kinds.specs.Histories.{is_call}
use Rattle.k42_kinds.specs.declared.entry.Act.{Act}
use Rattle.k42_kinds.specs.declared.entry.Answer.{Answer}
use Rattle.k42_kinds.specs.declared.entry.Answer.TheVariants.{Gone, Spent, Busy}
use Rattle.k42_limits.specs.declared.TheConstants.{LAST_INCARNATION, PASS_ENTRIES}
use Rattle.k42_joined.specs.Found.{tells_over}
use Rattle.k42_joined.specs.Numbers.{cell_of}
use Rattle.k42_kinds.specs.declared.entry.Entry.{Entry}
use Rattle.turn_core.specs.Events.{caller_drawn}
use Rattle.turn_core.specs.Names.{names}
use Rattle.turn_core.specs.Stamps.{last_stamp}
use Rattle.k42_stamp.specs.Laws.{AreLaws}
use Rattle.k42_stamp.specs.Layouts.{Layouts}
use Rattle.k42_joined.specs.Swapping.{holds_none}
use Rattle.k42_board.specs.Cells.{cells_noted}
use Rattle.k42_board.specs.Drawing.{IsTold, MayDrawMark, entry_mark, stamp_next, drawn_at, part_in, part_noted}
use Rattle.k42_board.specs.Log.{ComesTo, step_at, took, with_log}
use Rattle.k42_board.specs.Plan.{LayoutWords}
use Rattle.k42_board.specs.Protocol as protocol
use Rattle.k42_board.specs.Seen.{SysSeen, PassSeen}
use Rattle.k42_board.specs.Stepping.{HasStepped}
use Rattle.k42_board.specs.Taking.{CELLS, locked_view, taken_view}
use Rattle.k42_board.specs.Tabling.{is_over_in}
use Rattle.k42_board.specs.Values.{answer_in, has_bit, incarnation_in, layout_in}
use Rattle.k42_board.specs.Views.{object_begun, word_begun}
use Rattle.k42_board.specs.declared.cell.Content.{Content}
use Rattle.k42_board.specs.declared.view.PassView.{PassView}
use Rattle.k42_board.specs.declared.view.StepName.TheVariants as steps
use Rattle.k42_board.specs.declared.view.Taken.{Taken}
use Rattle.k42_board.proofs.Gained.{extends_one}
use Rattle.k42_mediator.specs.Entries.{IsNext}
use Rattle.k42_mediator.specs.Marks.{cell_marked}
use Rattle.k42_mediator.specs.Taken.{released, MayPutBack}
use Rattle.k42_mediator.proofs.GivenBack.{holds_last, released_taken, released_drawn, released_none, held_due}
use Rattle.k42_mediator.proofs.Logs.{comes_by, comes_on}
use Rattle.k42_mediator.proofs.NotesTold.{told_part, taken_now}

-- a stamp that was drawn is later than all that the pass had drawn
pub later_stamp : {P O R : Type 0} (v : PassView P O R) (cells : List ℕ) (stamp : ℕ) → stamp ≡ stamp_next v cells → last_stamp v.taker.mine < stamp
    → last_stamp v.taker.mine < stamp_next v cells
later_stamp v cells stamp is later = subst (λ n. last_stamp v.taker.mine < n) is later

-- a word of an object that is over answers that
pub over_told : {R : Type 0} (live word : ℕ) (answer : Answer R) → is_over_in live word ≡ true → answer_in live word ≡ Some answer → tells_over answer ≡ true
over_told live word answer over told = go (eqb (layout_in word) live) (eqb (incarnation_in word) LAST_INCARNATION) over told where
  go : (a b : Bool) → a || b ≡ true
      → cond a (Some Gone) (cond b (Some Spent) (cond (has_bit word 24) (Some (Busy (cond (has_bit word 27) (incarnation_in word) (incarnation_in word + 1)))) None)) ≡ Some answer
      → tells_over answer ≡ true
  go true b over' told' = ap tells_over (sym (same_Some Gone answer told'))
  go false true over' told' = ap tells_over (sym (same_Some Spent answer told'))
  go false false over' told' = absurd (cc)

pub cell_small : (o i : ℕ) → o < 16 → cell_of o i 0 < CELLS
cell_small o i few = omega (arith, few)

-- the lock of another caller
pub held_by : {S L P O R : Type 0} (words : LayoutWords S L P O R) (sys : SysSeen L) (n m found : ℕ) (old new : PassSeen P O R) → n ≡ m → (found ≡ 0 → ⊥)
    → HasStepped words sys (protocol.lock n) old found new → HasStepped words sys (protocol.lock m) old (found - 1 + 1) new
held_by words sys n m found old new named other steps =
    let back : found ≡ found - 1 + 1 = omega (arith, other) in
    subst (λ (z : ℕ × ℕ). HasStepped words sys (protocol.lock z.0) old z.1 new) (λ j. (named j, back j)) steps

pub holds_nothing : (held : List ℕ) (n : ℕ) → holds_none held ≡ true → names held n ≡ false
holds_nothing [] n e = refl
holds_nothing (m ∷ held) n e = absurd (cc)

-- of the pass before its lock, the cell that it takes, and its draw
module _ {P O R : Type 0} (v0 : PassView P O R) (n : ℕ) (cell : Content P O R) (number : cell.number ≡ n) (act : Act O) (answer : Answer R) (act_is : is_call act ≡ false) where
  abbrev v : PassView P O R
  v = taken_view cell (locked_view n 0 v0)

  abbrev entry : Entry O R
  entry = entry_mark v cell.number act answer

  abbrev w : PassView P O R
  w = drawn_at (cell ∷ []) entry v

  -- it may draw
  pub may_mark : (log : List Taken) → v0.found ≡ Some answer → tells_over answer ≡ true → n ≡ cell_marked v0 → length v0.taker.mine < PASS_ENTRIES
      → MayDrawMark cell act answer (with_log log v)
  may_mark log found over named few =
      let is = taken_now cell v0.notes in
      record { act_is = act_is; found = found; over = over; named = number ∙ named; held = is.held; part = is.part; few = few }

  -- once it has drawn
  pub comes_drawn : (word : ℕ) (v1 v2 : PassView P O R) → ComesTo v0 v v1
      → v2 ≡ took steps.Draw word 0 (drawn_at (cell ∷ []) (entry_mark v1 cell.number act answer) v1) → ComesTo v0 w v2
  comes_drawn word v1 v2 comes knows =
      comes_on (λ (u : PassView _ O R). drawn_at (cell ∷ []) (entry_mark u cell.number act answer) u) v0 v v1 v2 comes
      (comes_by v1 (drawn_at (cell ∷ []) (entry_mark v1 cell.number act answer) v1) v2 (step_at steps.Draw word 0 ∷ v1.log) knows
      (extends_one (step_at steps.Draw word 0) v1.log refl))
      (λ log u. refl)

  pub marks_next : last_stamp v0.taker.mine < entry.stamp → (object incarnation : ℕ) → object_begun v0.last ≡ object → incarnation_in (word_begun v0.last) ≡ incarnation
      → IsNext v0 object incarnation n act answer entry
  marks_next later object incarnation o i = record {
    later = later;
    whole = λ j. record {
      stamp = entry.stamp;
      caller = v0.number;
      index = length v0.taker.mine;
      object = o j;
      incarnation = i j;
      cell = number j;
      act = act;
      answer = answer;
      proc = v0.turn.proc;
      generation = cond (act_is j) v0.turn.active None;
    };
  }

  marked : names v0.taker.held n ≡ false → names (cells_noted v0.notes) n ≡ false → v0.out ≡ None → v0.untold ≡ []
      → released (n ∷ []) w ≡ record v0 { taker = caller_drawn entry v0.taker; found = None }
  marked unheld unnoted settled told =
      ap (λ m. released (m ∷ []) w) (sym number) ∙ released_drawn (cell ∷ []) entry v
      ∙ ap (λ m. record (released (m ∷ []) v) { taker = caller_drawn entry (released (m ∷ []) v).taker; found = None; untold = [] }) number
      ∙ ap (λ (u : PassView _ O R). record u { taker = caller_drawn entry u.taker; found = None; untold = [] }) (released_taken [] n cell v0 number unheld unnoted)
      ∙ ap (λ (u : PassView _ O R). record u { taker = caller_drawn entry u.taker; found = None; untold = [] }) (released_none v0 settled)
      ∙ ap (λ cells. record v0 { taker = caller_drawn entry v0.taker; found = None; untold = cells }) (sym told)

  -- and has given the cell back
  pub marked_now : (m : ℕ) (v2 new : PassView P O R) → m ≡ n → ComesTo v0 w v2 → ComesTo v2 (released (m ∷ []) v2) new
      → names v0.taker.held n ≡ false → names (cells_noted v0.notes) n ≡ false → v0.out ≡ None → v0.untold ≡ []
      → ComesTo v0 (record v0 { taker = caller_drawn entry v0.taker; found = None }) new
  marked_now m v2 new same drawn back unheld unnoted settled told =
      subst (λ (due : PassView _ O R). ComesTo v0 due new) (ap (λ k. released (k ∷ []) w) same ∙ marked unheld unnoted settled told)
      (comes_on (released (m ∷ [])) v0 w v2 new drawn back (λ log u. refl))

  pub mark_ready : {S L : Type 0} (F : Layouts S L P O R) → AreLaws F → (declared : List L) (id : ℕ) (log : List Taken) (new : Content P O R) → n < CELLS
      → IsTold w.notes cell new → MayPutBack F declared id (with_log log w) new
  mark_ready F laws declared id log new few told =
      let same : new.number ≡ n = told.number ∙ number in
      let named : names (cell.number ∷ []) new.number ≡ true = ap (λ b. b || false) (eq-eqb cell.number new.number (sym told.number)) in
      let noted : names (cells_noted v.notes) new.number ≡ true = ap (names (cells_noted v.notes)) told.number ∙ (taken_now cell v0.notes).held.noted in
      let part : part_noted w.notes new.number ≡ new.part =
      told_part (cell.number ∷ []) entry (part_in (cell ∷ [])) v.notes new.number noted named
      ∙ ap (λ b. cond b cell.part None) (eq-eqb cell.number new.number (sym told.number)) ∙ sym told.part in
      record {
        cell = subst (λ m. m < CELLS) (sym same) few;
        holds = ap (names (v0.taker.held ++ n ∷ [])) same ∙ holds_last v0.taker.held n;
        held = told.held;
        due = λ u alike there e. held_due F laws declared id new.number new.part u there (e ∙ part);
      }
