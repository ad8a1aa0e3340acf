-- An entry that is drawn at cells which a pass has taken: where it may be drawn.
use Rattle.std.proofs.Common.{◌≡◌, ℕ, ◌+◌, ◌<◌, ◌||◌, Bool, true, false, eqb, List, [], ◌∷◌, Some, length, sym, refl, ap, ◌∙◌, ⊎_elim, arith}
use Rattle.std.specs.List.{list_all}
use Rattle.std.specs.Prelude.{max, nat_lt}
use Rattle.std.proofs.lemmas.Bool.{eq-eqb}
use Rattle.std.proofs.lemmas.Bool.Decides.{nat_tests}
use mathlib.Core.Option.{some}
use lib.ListN.{get_elem?}
use Rattle.atomic_table.specs.Table.{State}
use Rattle.k42_kinds.specs.declared.entry.Entry.{Entry}
use Rattle.phase_core.specs.Consequences.{IsReadyToMove}
use Rattle.phase_core.proofs.InSound.{moved_is_ready}
use Rattle.turn_core.specs.Events.{has_open, is_next, can_draw, names_some}
use Rattle.turn_core.specs.Names.{names, names_once}
use Rattle.turn_core.specs.Plain.{Turns, Caller}
use Rattle.turn_core.specs.Stamps.{last_stamp, last_stamp_at}
use Rattle.turn_core.specs.State.{cell_at, caller_at}
use Rattle.k42_stamp.specs.Laws.{AreLaws}
use Rattle.k42_stamp.specs.Layouts.{Layouts}
use Rattle.k42_joined.specs.Locks.{is_closed_in}
use Rattle.k42_joined.specs.Numbers.{cell_of}
use Rattle.k42_joined.specs.Plain.{Joined}
use Rattle.k42_joined.specs.Sound.{IsSound}
use Rattle.k42_joined.specs.State.{object, cell, incarnation, many_objects, many_procs, many_hands, is_handed}
use Rattle.k42_joined.proofs.AnswersRows.{handed_moved}
use Rattle.k42_board.specs.Cells.{Slot, cells_noted}
use Rattle.k42_board.specs.Drawing.{last_noted}
use Rattle.k42_board.specs.Rule.{Rule}
use Rattle.k42_board.specs.declared.view.PassView.{PassView}
use Rattle.k42_board.specs.declared.view.View.{View}
use Rattle.k42_board.specs.declared.view.View.TheVariants.{Crew}
use Rattle.k42_board.proofs.DrawnParts.{as_noted}
use Rattle.k42_board.proofs.Drawers.{is_next_of}
use Rattle.k42_board.proofs.OnePass.{known}

-- an open cell that the caller has taken
pub open_is : {O R : Type 0} (s : Turns O R) (c n : ℕ) → (cell_at s n).lock ≡ Some c → (cell_at s n).home ≡ false → (cell_at s n).closed ≡ false → has_open s c n ≡ true
open_is s c n lock home closed = let same = eq-eqb c c refl in rw (lock, home, closed, same) refl

pub all_are : (test : ℕ → Bool) (cells : List ℕ) → ((n : ℕ) → names cells n ≡ true → test n ≡ true) → list_all test cells ≡ true
all_are test [] each = refl
all_are test (n ∷ cells) each =
    let one : test n ≡ true = each n (let same = eq-eqb n n refl in rw same refl) in
    let more : list_all test cells ≡ true = all_are test cells (λ m e. each m (or_right (eqb n m) (names cells m) e)) in
    rw (one, more) refl
  where
    or_right : (a b : Bool) → b ≡ true → a || b ≡ true
    or_right true b e = refl
    or_right false b e = e

pub can_draw_of : {O R : Type 0} (s : Turns O R) (c : ℕ) (cells : List ℕ) (entry : Entry O R) → names_some cells ≡ true → names_once cells ≡ true → list_all (has_open s c) cells ≡ true
    → is_next s c cells entry ≡ true → can_draw s c cells entry ≡ true
can_draw_of s c cells entry one two three four = rw (one, two, three, four) refl

-- the row of an object that was not handed on is open
module _ {S L P O R : Type 0} (F : Layouts S L P O R) (laws : AreLaws F) (declared : List L) (s : Joined L O R) (sound : IsSound F declared s) (o : ℕ) (named : o < many_objects s) where
  module _ (unhanded : is_handed s o ≡ false) where
    pub hands_are : many_hands s o ≡ incarnation s o
    hands_are =
        ⊎_elim (λ same. same) (λ ahead. absurd (let less : nat_lt (incarnation s o) (many_hands s o) ≡ true = lt_true (incarnation s o) (many_hands s o) (omega (arith, ahead)) in cc))
        (sound.cells.locks.counted o named).ahead
      where
        lt_true : (a b : ℕ) → a < b → nat_lt a b ≡ true
        lt_true a b lt = grind (arith, nat_tests, lt)

    pub open_life : (p : ℕ) → p < many_procs s → (cell s (cell_of o (incarnation s o) p)).life ≡ many_hands s o
    open_life p lt = (sound.cells.locks.lives o p named lt).present.life ∙ sym hands_are

    pub open_closed : (p : ℕ) → p < many_procs s → (cell s (cell_of o (incarnation s o) p)).closed ≡ false
    open_closed p lt =
        let opened : is_closed_in (incarnation s o) false (incarnation s o) ≡ false = grind (arith, nat_tests) in
        (sound.cells.locks.lives o p named lt).present.closed ∙ ap (λ b. is_closed_in (incarnation s o) b (incarnation s o)) unhanded ∙ opened

  -- a row that was handed on is of an object which is moved, and so not over
  pub handed_ready : is_handed s o ≡ true → IsReadyToMove (object s o)
  handed_ready handed =
      let mover = handed_moved F laws declared s sound.cells.turns sound.cells.locks sound.cells.rows sound.answers o named handed in
      moved_is_ready s.phases sound.phases mover.caller o mover.there mover.moves

module _ {S L P O R : Type 0} (F : Layouts S L P O R) (laws : AreLaws F) (declared : List L)
    (table : State (Slot P O R) (View P O R)) (r : Rule F declared table) (id : ℕ) (v : PassView P O R)
    (at : get_elem? table.views id ≡ some (Crew (v ∷ []))) where
  -- the stamps that it has noted are those of the cells
  pub stamps_noted : (cells : List ℕ) → ((n : ℕ) → names cells n ≡ true → names (cells_noted v.notes) n ≡ true)
      → last_noted v.notes cells ≡ last_stamp_at r.state.turns cells
  stamps_noted [] each = refl
  stamps_noted (n ∷ cells) each =
      let is = as_noted F laws declared table r id v at n (each n (let same = eq-eqb n n refl in rw same refl)) in
      λ i. max (last_stamp (sym is.history i)) (stamps_noted cells (λ m e. each m (or_right (eqb n m) (names cells m) e)) i)
    where
      or_right : (a b : Bool) → b ≡ true → a || b ≡ true
      or_right true b e = refl
      or_right false b e = e

  -- so the entry is its next
  pub next_noted : (cells : List ℕ) (entry : Entry O R) → ((n : ℕ) → names cells n ≡ true → names (cells_noted v.notes) n ≡ true)
      → entry.caller ≡ v.number → entry.index ≡ length v.taker.mine → entry.stamp ≡ max v.taker.clock (last_noted v.notes cells) + 1
      → is_next r.state.turns v.number cells entry ≡ true
  next_noted cells entry each caller index stamp =
      let k = known F declared table r id v at in
      let taker : v.taker ≡ caller_at r.state.turns v.number = sym k.cells.taker in
      is_next_of r.state.turns v.number cells entry caller (index ∙ ap (λ (x : Caller O R). length x.mine) taker)
      (stamp ∙ (λ i. max (taker i).clock (stamps_noted cells each i) + 1))
