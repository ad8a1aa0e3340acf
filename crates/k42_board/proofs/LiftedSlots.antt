-- The steps of a seat that has the slot of a cell out, as the table asks for them, and as contracts tell them.
use Rattle.std.proofs.Common.{◌≡◌, ℕ, List, [], ◌∷◌, Some, None, sym, refl, ap, ◌∙◌, subst}
use Rattle.std.specs.Prelude.{is_some, IsSomeAnd}
use mathlib.Core.Option.{none}
use Rattle.atomic_table.specs.Table.{Step, step, keeps, takes, gives, Allows}
use Rattle.atomic_table.specs.declared.shared.Seat.{Seat}
use Rattle.atomic_table.proofs.Lists.{set_here}
use Rattle.turn_core.specs.declared.event.TurnEvent.TheVariants.{Put}
use Rattle.k42_stamp.specs.Laws.{AreLaws}
use Rattle.k42_stamp.specs.Layouts.{Layouts}
use Rattle.k42_joined.specs.Drawing.{first_cell}
use Rattle.k42_joined.specs.Effects.{effect}
use Rattle.k42_joined.specs.Event.{Event, AtCells}
use Rattle.k42_joined.specs.State.{many_callers}
use Rattle.k42_board.specs.Cells.{Slot}
use Rattle.k42_board.specs.Drawing.{HasSmallStamp, IsTold, numbers_of, untold_view}
use Rattle.k42_board.specs.Lifted.{IsSeatWith, slot_in, cell_listed, StaysFull, LiftsKnown, HasTakenWith}
use Rattle.k42_board.specs.Log.{took, logs, put_at}
use Rattle.k42_board.specs.Plan.{LayoutWords}
use Rattle.k42_board.specs.Protocol.{lift, put}
use Rattle.k42_board.specs.Receipts.{IsDue, after_first, telling, receipt}
use Rattle.k42_board.specs.Rule.{Ruled}
use Rattle.k42_board.specs.Seats as seats
use Rattle.k42_board.specs.Seen.{IsSeatOf}
use Rattle.k42_board.specs.Stepping as stepping
use Rattle.k42_board.specs.Stepping.{WordStep, DoesEvent, layouts_by}
use Rattle.k42_board.specs.Steps.{Seated, on_pass, Always, Tells, TellsWith, StepIs}
use Rattle.k42_board.specs.Taking.{HoldsHome, MayPut, IsWhole, AreRowsNoted, Puts, ActIs, cell_at_lock, put_view}
use Rattle.k42_board.specs.Views.{pass_in}
use Rattle.k42_board.specs.Words.{lock_word, slot_of}
use Rattle.k42_board.specs.declared.cell.Content.{Content}
use Rattle.k42_board.specs.declared.setup.Setup.{Setup}
use Rattle.k42_board.specs.declared.view.PassView.{PassView}
use Rattle.k42_board.specs.declared.view.StepName.TheVariants as steps
use Rattle.k42_board.specs.declared.view.View.{View}
use Rattle.k42_board.specs.declared.view.View.TheVariants.{Crew}
use Rattle.k42_board.proofs.CellsAllowed.{lifted, replaced, relogs, take_is, takes_out, whole_always}
use Rattle.k42_board.proofs.CellsApart.{at_within, cell_of_lock}
use Rattle.k42_board.proofs.CellsEvents.{take_found, puts, may_put}
use Rattle.k42_board.proofs.CellsTold.{told_whole, told_held}
use Rattle.k42_board.proofs.Drawers.{small_stamps}
use Rattle.k42_board.proofs.Logged.{logged_moves}
use Rattle.k42_board.proofs.Moves.{Moves, callers_on, moves_is}
use Rattle.k42_board.proofs.PartLaws.{rows_noted}

-- a seat with one slot out, and what is in it
module _ {P O R : Type 0} (me : Seated P O R) (v : PassView P O R) (slot : ℕ) (x : Slot P O R) (is : me ≡ (Crew (v ∷ []), (slot, x) ∷ [])) where
  pub pass_is : pass_in me.0 ≡ v
  pass_is = ap (λ (m : Seated P O R). pass_in m.0) is

  pub slot_is : slot_in me.1 ≡ x
  slot_is = ap (λ (m : Seated P O R). slot_in m.1) is

  pub seat_alone : IsSeatWith ((slot, slot_in me.1) ∷ []) me (pass_in me.0)
  seat_alone = is ∙ (λ k. (Crew (pass_in (sym is k).0 ∷ []), (slot, slot_in (sym is k).1) ∷ []))

  -- once it is parted from what the cell is told
  pub seat_parted : (now : Seated P O R) → now ≡ (telling me.0, me.1) → now ≡ (Crew (untold_view (after_first v.untold) v ∷ []), (slot, x) ∷ [])
  seat_parted now e = e ∙ (λ k. (telling (is k).0, (is k).1))

module _ {S L P O R : Type 0} (F : Layouts S L P O R) (laws : AreLaws F) (declared : List L) (id n : ℕ) (v : PassView P O R) where
  -- a cell is lifted, and its slot stays out
  module _ (idle : v.out ≡ None) (may : HoldsHome n v) where
    lift_alone : (callers : ℕ) (Known : PassView P O R → Type 0) → ((w : PassView P O R) → AreRowsNoted F declared w → Known w) → (slots : ℕ)
        → Allows (Ruled F declared callers) slots id (Crew (v ∷ []), []) (lock_word n) (λ word. word)
        (LiftsKnown Known (step slots (lock_word n) 0 0 none) (Crew (v ∷ []), []))
    lift_alone callers Known known' slots table r long at fits =
        let has = take_found F laws declared table r.rule id v at n may in
        let after = take_is F laws declared id n v may idle has.0 table r.rule at has.1 in
        let there = set_here table.views id (Crew (lifted n has.0 v ∷ [])) (at_within table.views id (Crew (v ∷ [])) at) in
        let rows = rows_noted F laws declared _ after.0 id (lifted n has.0 v) there in (
          Crew (lifted n has.0 v ∷ []),
          takes (slot_of n) (Some has.0),
          has.1,
          record { rule = after.0; many = ap many_callers after.1 ∙ r.many },
          ((has.0, has.2 ∙ same_cell, λ k. (Crew (lifted n has.0 v ∷ []), (slot_of (same_cell k), Some has.0) ∷ [])), known' (lifted n has.0 v) rows),
        )
      where
        same_cell : n ≡ cell_at_lock (lock_word n)
        same_cell = sym (cell_of_lock n may.cell)

    pub lift_out : {callers : ℕ} (me : Seated P O R) → IsSeatOf me v → (Known : PassView P O R → Type 0) → ((w : PassView P O R) → AreRowsNoted F declared w → Known w) → (slots : ℕ)
        → Allows (Ruled F declared callers) slots id me (lock_word n) (λ word. word) (LiftsKnown Known (step slots (lock_word n) 0 0 none) me)
    lift_out {callers} me is Known known' slots =
        subst (λ (m : Seated P O R). Allows (Ruled F declared callers) slots id m (lock_word n) (λ word. word) (LiftsKnown Known (step slots (lock_word n) 0 0 none) m)) (sym is)
        (lift_alone callers Known known' slots)

    pub lift_moved : (content : Content P O R) (w : PassView P O R) → w ≡ lifted n content v → stepping.Moves F declared (lift n content) id v w
    lift_moved content w same = subst (stepping.Moves F declared (lift n content) id v) (sym same) (takes_out F laws declared id n v idle may content)

  pub lifted_whole : (content : Content P O R) → content.number ≡ n → (w : PassView P O R) → w ≡ lifted n content v → Always F declared id w (IsWhole F declared n content)
  lifted_whole content number w same =
      subst (λ z. Always F declared id z (IsWhole F declared n content)) (sym same) (whole_always F laws declared id n (lifted n content v) 0 content refl number)

  -- and is put back into it
  module _ (content : Content P O R) (may : MayPut F declared id n content v) (out : v.out ≡ Some n) where
    put_is_put : ActIs F declared (λ s. effect s (AtCells (Put v.number n))) (lock_word n) id ((slot_of n, Some content) ∷ []) v gives (replaced n content v)
    put_is_put table r at valid =
        let after = puts F laws declared table r id v at n out may.place may.note may.noted may.named content may.whole (may.part table r at) in
        let again = relogs F declared table _ _ id (put_view n v) at after.0 _ (λ o is. is) in (again.0, again.1 ∙ after.1)

    pub put_back : {callers : ℕ} (me : Seated P O R) → me ≡ (Crew (v ∷ []), (slot_of n, Some content) ∷ []) → (slots : ℕ)
        → Allows (Ruled F declared callers) slots id me (lock_word n) (λ word. word) (Puts (step slots (lock_word n) 0 0 none) me)
    put_back {callers} me is slots =
        subst (λ (m : Seated P O R). Allows (Ruled F declared callers) slots id m (lock_word n) (λ word. word) (Puts (step slots (lock_word n) 0 0 none) m)) (sym is) alone
      where
        same_cell : n ≡ cell_at_lock (lock_word n)
        same_cell = sym (cell_of_lock n may.cell)

        alone : Allows (Ruled F declared callers) slots id (Crew (v ∷ []), (slot_of n, Some content) ∷ []) (lock_word n) (λ word. word)
            (Puts (step slots (lock_word n) 0 0 none) (Crew (v ∷ []), (slot_of n, Some content) ∷ []))
        alone table r long at fits =
            let after = put_is_put table r.rule at tt in (
              Crew (replaced n content v ∷ []),
              gives,
              tt,
              record { rule = after.0; many = ap many_callers after.1 ∙ r.many },
              λ k. (Crew (logs (put_at (lock_word n) (is_some content.part)) (put_view (same_cell k) v) ∷ []), []),
            )

    pub put_moved : (w : PassView P O R) → w ≡ replaced n content v → stepping.Moves F declared (put n content) id v w
    put_moved w same =
        subst (stepping.Moves F declared (put n content) id v) (sym same) (record {
          knows = refl;
          possible = λ table r at. may_put F laws declared table r id v at n may.place may.note may.noted may.named;
          event = put_is_put;
        })

-- a draw leaves the slots that are out
module _ {S L P O R : Type 0} {F : Layouts S L P O R} {declared : List L} {event : Event L O R} {word : ℕ} {becomes : PassView P O R → PassView P O R} {id : ℕ} {v : PassView P O R}
    (moves : Moves F declared event word (λ n. n) (λ found. becomes) id v) where
  draws : Moves F declared event word (λ n. n) (λ found x. took steps.Draw word 0 (becomes x)) id v
  draws = logged_moves steps.Draw (λ n. 0) (λ found o before is. is) moves

  draw_alone : (callers slots : ℕ) (held : List (ℕ × Slot P O R)) (step : Step (Slot P O R))
      → Allows (Ruled F declared callers) slots id (Crew (v ∷ []), held) word (λ n. n)
      (TellsWith (λ found x. took steps.Draw word 0 (becomes x)) (λ v found. HasSmallStamp (becomes v)) step (Crew (v ∷ []), held))
  draw_alone callers slots held step table r long at fits =
      let plain = moves.from table r.rule at in
      let after = draws.from table r.rule at in (
        Crew (took steps.Draw word 0 (becomes v) ∷ []),
        keeps,
        tt,
        record { rule = after.0; many = ap many_callers after.1 ∙ callers_on F declared r.rule.state r.rule.sound event after.2 ∙ r.many },
        (refl, small_stamps F declared _ plain.0 id (becomes v) (set_here table.views id (Crew (becomes v ∷ [])) (at_within table.views id (Crew (v ∷ [])) at))),
      )

  pub draw_with : {callers : ℕ} {held : List (ℕ × Slot P O R)} (said : PassView P O R → PassView P O R) → said ≡ becomes → (place : ℕ) → place ≡ word → (me : Seated P O R) → IsSeatWith held me v → (slots : ℕ) (step : Step (Slot P O R))
      → Allows (Ruled F declared callers) slots id me place (λ n. n) (TellsWith (λ found x. took steps.Draw place 0 (said x)) (λ v found. HasSmallStamp (said v)) step me)
  draw_with {callers} {held} said same place there me is slots step =
      subst (λ (z : ℕ × (PassView P O R → PassView P O R)). Allows (Ruled F declared callers) slots id me z.0 (λ n. n) (TellsWith (λ found x. took steps.Draw z.0 0 (z.1 x)) (λ v found. HasSmallStamp (z.1 v)) step me))
      (λ k. (sym there k, sym same k))
      (subst (λ (m : Seated P O R). Allows (Ruled F declared callers) slots id m word (λ n. n) (TellsWith (λ found x. took steps.Draw word 0 (becomes x)) (λ v found. HasSmallStamp (becomes v)) step m))
      (sym is) (draw_alone callers slots held step))

  pub draw_is_with : {held : List (ℕ × Slot P O R)} (me seated : Seated P O R) → IsSeatWith held me v → (step : Step (Slot P O R)) (found : ℕ) → Tells (λ found x. took steps.Draw word 0 (becomes x)) step me found seated
      → StepIs F declared event word (λ n. n) id v found (pass_in seated.0)
  draw_is_with me seated is step found told =
      let same : took steps.Draw word 0 (becomes v) ≡ pass_in seated.0 =
      ap (λ (m : Seated P O R). pass_in (on_pass (λ x. took steps.Draw word 0 (becomes x)) m.0)) (sym is) ∙ ap (λ (m : Seated P O R). pass_in m.0) (sym told) in
      subst (StepIs F declared event word (λ n. n) id v found) same (moves_is draws found)

-- what a step on a word tells of a seat with slots out
module _ {S L P O R : Type 0} (words : LayoutWords S L P O R) (key : Setup L) (step : PassView P O R → WordStep S L P O R) (old new : Seat (Slot P O R) (View P O R)) where
  abbrev before : PassView P O R
  before = pass_in old.me.0

  pub has_taken_with : {held : List (ℕ × Slot P O R)} → IsSeatWith held old.me before → new.table_id ≡ old.table_id → new.id ≡ old.id → (changed : ℕ → PassView P O R → PassView P O R)
      → (at : Step (Slot P O R)) (found : ℕ) → changed found before ≡ (step before).after found
      → Tells changed at old.me found new.me → (step before).Finds found
      → ((new_is : (step before).after found ≡ pass_in new.me.0) → DoesEvent (layouts_by words key) key.layouts.items (step before).event (step before).word (step before).changed
      old.id before found (pass_in new.me.0))
      → HasTakenWith words key step old found new
  has_taken_with is table seat changed at found same told finds event =
      let alone : IsSeatWith old.me.1 new.me ((step before).after found) =
      told ∙ ap {B = Seated P O R} (λ (m : Seated P O R). (on_pass (changed found) m.0, old.me.1)) is ∙ ap {B = Seated P O R} (λ (v : PassView P O R). (Crew (v ∷ []), old.me.1)) same in
      record {
        table = table;
        seat = seat;
        alone = alone;
        takes = record {
          knows = ap (λ (m : Seated P O R). pass_in m.0) alone;
          finds = finds;
          event = event (sym (ap (λ (m : Seated P O R). pass_in m.0) alone));
        };
      }

-- the cell that is out is the first of those at which is drawn
pub first_in : {P O R : Type 0} (slot : Slot P O R) (n : ℕ) → IsSomeAnd slot (λ (content : Content P O R). content.number ≡ n) → n ≡ first_cell (numbers_of (cell_listed slot))
first_in None n is = absurd is
first_in (Some content) n is = sym is

-- and is told of the entry
module _ {P O R : Type 0} (v : PassView P O R) (n last : ℕ) (views : List (View P O R)) (first : v.untold ≡ n ∷ after_first v.untold) (e : views ≡ receipt (Crew (v ∷ [])) ∷ []) where
  pub may_tell : (slot : Slot P O R) → IsSomeAnd slot (λ (content : Content P O R). content.number ≡ n) → IsSomeAnd slot (λ (content : Content P O R). IsDue v.notes content.number content.closed last)
      → IsSomeAnd slot (λ (content : Content P O R). seats.IsTold content.closed last views)
  may_tell None full due = absurd full
  may_tell (Some content) full due =
      told_whole v content.number content.closed last views (first ∙ ap (λ m. m ∷ after_first v.untold) (sym full)) due (Crew (v ∷ []), []) refl e

  pub has_told : (old new : Slot P O R) → IsSomeAnd old (λ (content : Content P O R). content.number ≡ n) → IsSomeAnd old (λ (content : Content P O R). IsDue v.notes content.number content.closed last)
      → StaysFull (λ (x y : Content P O R). (y.number ≡ x.number) × (y.part ≡ x.part) × (y.badge.views ≡ views)) old new → StaysFull (IsTold v.notes) old new
  has_told None new full due stays = absurd full
  has_told (Some old) None full due stays = absurd stays
  has_told (Some old) (Some new) full due stays =
      told_held v old new old.closed last (first ∙ ap (λ m. m ∷ after_first v.untold) (sym full)) due (Crew (v ∷ []), []) refl (stays.2 ∙ e) stays.0 stays.1
