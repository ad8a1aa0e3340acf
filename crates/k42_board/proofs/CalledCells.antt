-- A seat that makes a call at a cell in its slot: what it owes on the way, and what it has done.
use Rattle.std.proofs.Common.{◌≡◌, ℕ, ◌+◌, [], ◌∷◌, Some, None, refl, sym, ap, ◌∙◌, subst, arith}
use Rattle.std.specs.Prelude.{IsSomeAnd, IfSome, max}
use Rattle.atomic_table.specs.Seated.{TableId}
use Rattle.atomic_table.specs.declared.shared.Seat.{Seat}
use Rattle.k42_board.specs.Calling.{HasCalledAt, HasLeftCell, HasStepped, MayCallAt, MayCallWith, called_by, lifted_by, stepped_cell}
use Rattle.k42_board.specs.Cells.{Slot}
use Rattle.k42_board.specs.Drawing.{HasSmallStamp, IsTold, draws_at, entry_at, numbers_of, stamp_next, untold_view}
use Rattle.k42_board.specs.Lifted.{HasMovedOnce, HasTakenWith, HoldsSlot, IsSeatWith, StaysFull, cell_listed, slot_in}
use Rattle.k42_board.specs.Log.{took}
use Rattle.k42_board.specs.Plan.{LayoutWords}
use Rattle.k42_board.specs.Protocol.{draw_call, lift, put}
use Rattle.k42_board.specs.Receipts.{IsDue, after_first}
use Rattle.k42_board.specs.Stepping.{Moves, Takes, layouts_by}
use Rattle.k42_board.specs.Steps.{Seated}
use Rattle.k42_board.specs.Taking.{AreRowsNoted, MayPut}
use Rattle.k42_board.specs.Views.{pass_in}
use Rattle.k42_board.specs.Words.{lock_word, slot_of}
use Rattle.k42_board.specs.declared.cell.Content.{Content}
use Rattle.k42_board.specs.declared.setup.Setup.{Setup}
use Rattle.k42_board.specs.declared.view.PassView.{PassView}
use Rattle.k42_board.specs.declared.view.StepName.TheVariants as steps
use Rattle.k42_board.specs.declared.view.View.{View}
use Rattle.k42_board.specs.declared.view.View.TheVariants.{Crew}
use Rattle.k42_board.proofs.CellsAllowed.{held_is, held_one}
use Rattle.k42_board.proofs.LiftedSlots.{pass_is, seat_alone, slot_is}
use Rattle.k42_board.proofs.Noted.{mark_due, stamp_held}

-- a slot that stays full has this cell then
record IsFull {P O R : Type 0} (IsSo : Content P O R → Content P O R → Type 0) (old : Content P O R) (slot : Slot P O R) : Type 0 where
  pub cell : Content P O R
  pub is : slot ≡ Some cell
  pub so : IsSo old cell

is_full : {P O R : Type 0} (IsSo : Content P O R → Content P O R → Type 0) (old new : Slot P O R) (cell : Content P O R) → old ≡ Some cell → StaysFull IsSo old new → IsFull IsSo cell new
is_full IsSo old (Some now) cell e is = record { cell = now; is = refl; so = subst (λ s. StaysFull IsSo s (Some now)) e is }
is_full IsSo old None cell e is = absurd (subst (λ s. StaysFull IsSo s None) e is)

-- the pass has the cell out in its slot
abbrev IsOut : {P O R : Type 0} → ℕ → Seated P O R → PassView P O R → Content P O R → Type 0
IsOut n me v cell = me ≡ (Crew (v ∷ []), (slot_of n, Some cell) ∷ [])

module _ {S L P O R : Type 0} (words : LayoutWords S L P O R) (key : Setup L) (n : ℕ) where
  -- the cell was lifted
  record IsLifted (old new : Seat (Slot P O R) (View P O R)) : Type 0 where
    pub cell : Content P O R
    pub number : cell.number ≡ n
    pub moved : HasMovedOnce words key (lift n cell) old new
    pub out : IsOut n new.me (lifted_by n cell (pass_in old.me.0)) cell

  is_lifted : (old new : Seat (Slot P O R) (View P O R)) → IsSomeAnd (slot_in new.me.1) (λ (content : Content P O R). content.number ≡ n)
      → IfSome (slot_in new.me.1) (λ content. HasMovedOnce words key (lift n content) old new) → IsLifted old new
  is_lifted old new full lifted =
      let one = held_one (slot_in new.me.1) full in
      let moved = held_is (λ content. HasMovedOnce words key (lift n content) old new) (slot_in new.me.1) one.0 one.1 lifted in
      record { cell = one.0; number = one.2; moved = moved; out = moved.alone }

  -- a seat that has the cell out is one that holds its slot
  out_holds : {table : TableId} (first now : Seat (Slot P O R) (View P O R)) → HoldsSlot words table key n first → now.table_id ≡ first.table_id → (u : PassView P O R) (cell : Content P O R)
      → IsOut n now.me u cell → u.out ≡ Some n → cell.number ≡ n → HoldsSlot words table key n now
  out_holds first now h same u cell is out number = record {
    ours = same ∙ h.ours;
    many = h.many;
    laws = h.laws;
    cell = h.cell;
    alone = seat_alone now.me u (slot_of n) (Some cell) is;
    out = ap (λ (x : PassView P O R). x.out) (pass_is now.me u (slot_of n) (Some cell) is) ∙ out;
    full = subst (λ (slot : Slot P O R). IsSomeAnd slot (λ content. content.number ≡ n)) (sym (slot_is now.me u (slot_of n) (Some cell) is)) number;
  }

  module _ (old s1 s2 : Seat (Slot P O R) (View P O R)) (full : IsSomeAnd (slot_in s1.me.1) (λ (content : Content P O R). content.number ≡ n))
      (lifts : IfSome (slot_in s1.me.1) (λ content. HasMovedOnce words key (lift n content) old s1))
      (rows : AreRowsNoted (layouts_by words key) key.layouts.items (pass_in s1.me.0))
      (same : (s2.table_id ≡ s1.table_id) × (s2.id ≡ s1.id)) (seated : IsSeatWith ((slot_of n, slot_in s2.me.1) ∷ []) s2.me (pass_in s1.me.0)) where
    abbrev v : PassView P O R
    v = pass_in old.me.0

    l : IsLifted old s1
    l = is_lifted old s1 full lifts

    abbrev w : PassView P O R
    w = lifted_by n l.cell v

    view1 : pass_in s1.me.0 ≡ w
    view1 = ap (λ (m : Seated P O R). pass_in m.0) l.out

    lifted1 : Moves (layouts_by words key) key.layouts.items (lift n l.cell) old.id v w
    lifted1 = subst (Moves (layouts_by words key) key.layouts.items (lift n l.cell) old.id v) view1 l.moved.moved

    noted1 : AreRowsNoted (layouts_by words key) key.layouts.items w
    noted1 = subst (AreRowsNoted (layouts_by words key) key.layouts.items) view1 rows

    -- the cell was put back as it was
    pub left_cell : (s3 : Seat (Slot P O R) (View P O R)) → slot_in s2.me.1 ≡ slot_in s1.me.1 → IfSome (slot_in s2.me.1) (λ content. HasMovedOnce words key (put n content) s2 s3)
        → HasLeftCell (layouts_by words key) key.layouts.items n old.id v (pass_in s3.me.0)
    left_cell s3 still puts =
        let moved = held_is (λ content. HasMovedOnce words key (put n content) s2 s3) (slot_in s2.me.1) l.cell (still ∙ ap (λ (m : Seated P O R). slot_in m.1) l.out) puts in
        record {
          content = l.cell;
          number = l.number;
          lifted = lifted1;
          rows = noted1;
          put =
              subst (λ (z : ℕ × PassView P O R). Moves (layouts_by words key) key.layouts.items (put n l.cell) z.0 z.1 (pass_in s3.me.0))
              (λ j. ((same.1 ∙ l.moved.seat) j, (ap (λ (m : Seated P O R). pass_in m.0) seated ∙ view1) j)) moved.moved;
        }

    module _ (layout : L) (p : ℕ) (op : O) (reply : R)
        (stepped : StaysFull (HasStepped (words.ways layout) key.procs p op reply) (slot_in s1.me.1) (slot_in s2.me.1)) where
      abbrev cell2 : Content P O R
      cell2 = stepped_cell (layouts_by words key) key.layouts.items layout p n op l.cell

      steps2 : IsFull (HasStepped (words.ways layout) key.procs p op reply) l.cell (slot_in s2.me.1)
      steps2 = is_full (HasStepped (words.ways layout) key.procs p op reply) (slot_in s1.me.1) (slot_in s2.me.1) l.cell (ap (λ (m : Seated P O R). slot_in m.1) l.out) stepped

      is_stepped : HasStepped (words.ways layout) key.procs p op reply l.cell cell2
      is_stepped = record { replied = steps2.so.replied; stepped = refl }

      out2 : IsOut n s2.me w cell2
      out2 = seated ∙ (λ j. (Crew (view1 j ∷ []), (slot_of n, (steps2.is ∙ ap Some steps2.so.stepped) j) ∷ []))

      -- the call is drawn at it
      module _ (may : MayCallAt (layouts_by words key) key.layouts.items layout p n op old.id v)
          (s3 : Seat (Slot P O R) (View P O R)) (draws : (found : ℕ) → HasTakenWith words key (draw_call (cell_listed (slot_in s2.me.1)) op reply) s2 found s3) where
        abbrev drawn : PassView P O R
        drawn = took steps.Draw (lock_word cell2.number) 0 (draws_at (cell2 ∷ []) (entry_at (cell2 ∷ []) op reply w) w)

        id_may : MayCallWith (layouts_by words key) key.layouts.items layout p n op old.id l.cell v
        id_may = may l.cell l.number noted1

        out3 : IsOut n s3.me drawn cell2
        out3 = (draws 0).alone ∙ (λ j. (Crew ((draw_call {S = S} {L = L} (cell_listed (slot_in (out2 j).1)) op reply (pass_in (out2 j).0)).after 0 ∷ []), (out2 j).1))

        pub tell_holds : {table : TableId} → HoldsSlot words table key n s1 → HoldsSlot words table key n s3
        tell_holds h = out_holds s1 s3 h ((draws 0).table ∙ same.0) drawn cell2 out3 (ap Some l.number) l.number

        pub tell_first : (pass_in s3.me.0).untold ≡ n ∷ after_first (pass_in s3.me.0).untold
        tell_first = subst (λ (m : Seated P O R). (pass_in m.0).untold ≡ n ∷ after_first (pass_in m.0).untold) (sym out3) (ap (λ k. k ∷ []) l.number)

        small2 : HasSmallStamp (draws_at (cell2 ∷ []) (entry_at (cell2 ∷ []) op reply w) w)
        small2 =
            subst (λ (m : Seated P O R). HasSmallStamp (draws_at (cell_listed (slot_in m.1)) (entry_at (cell_listed (slot_in m.1)) op reply (pass_in m.0)) (pass_in m.0))) out2 (draws 0).takes.finds

        module _ (clock last stamp : ℕ) (clock_is : clock ≡ v.taker.clock) (last_is : IsSomeAnd (slot_in s1.me.1) (λ (content : Content P O R). last ≡ content.last))
            (stamp_is : stamp ≡ max clock last + 1) where
          last_told_is : last ≡ max cell2.last 0
          last_told_is =
              let is : last ≡ l.cell.last = subst (λ (slot : Slot P O R). IsSomeAnd slot (λ content. last ≡ content.last)) (ap (λ (m : Seated P O R). slot_in m.1) l.out) last_is in omega (arith, is)

          stamped : stamp ≡ stamp_next w (numbers_of (cell2 ∷ []))
          stamped = stamp_held w (cell2 ∷ []) clock stamp last (id_may.draws reply is_stepped).held clock_is last_told_is stamp_is

          pub tell_due : IsSomeAnd (slot_in s3.me.1) (λ (content : Content P O R). IsDue (pass_in s3.me.0).notes content.number content.closed stamp)
          tell_due =
              subst (λ (m : Seated P O R). IsSomeAnd (slot_in m.1) (λ content. IsDue (pass_in m.0).notes content.number content.closed stamp)) (sym out3)
              (subst (λ k. IsDue drawn.notes cell2.number cell2.closed k) (sym stamped)
              (mark_due (lock_word cell2.number) w cell2 (entry_at (cell2 ∷ []) op reply w) (Crew (drawn ∷ []), []) refl small2 ((id_may.draws reply is_stepped).held 0 cell2 refl)))

          -- it is told of that
          module _ (s4 : Seat (Slot P O R) (View P O R)) (same4 : (s4.table_id ≡ s3.table_id) × (s4.id ≡ s3.id))
              (seated4 : IsSeatWith ((slot_of n, slot_in s4.me.1) ∷ []) s4.me (untold_view (after_first (pass_in s3.me.0).untold) (pass_in s3.me.0)))
              (tells : StaysFull (IsTold (pass_in s3.me.0).notes) (slot_in s3.me.1) (slot_in s4.me.1)) where
            abbrev called : PassView P O R
            called = called_by (layouts_by words key) key.layouts.items layout p n op l.cell reply v

            told4 : IsFull (IsTold (pass_in s3.me.0).notes) cell2 (slot_in s4.me.1)
            told4 = is_full (IsTold (pass_in s3.me.0).notes) (slot_in s3.me.1) (slot_in s4.me.1) cell2 (ap (λ (m : Seated P O R). slot_in m.1) out3) tells

            is_told : IsTold called.notes cell2 told4.cell
            is_told = subst (λ (m : Seated P O R). IsTold (pass_in m.0).notes cell2 told4.cell) out3 told4.so

            out4 : IsOut n s4.me called told4.cell
            out4 = seated4 ∙ (λ j. (Crew (untold_view (after_first (pass_in (out3 j).0).untold) (pass_in (out3 j).0) ∷ []), (slot_of n, told4.is j) ∷ []))

            id4 : s4.id ≡ old.id
            id4 = same4.1 ∙ (draws 0).seat ∙ same.1 ∙ l.moved.seat

            pub put_holds : {table : TableId} → HoldsSlot words table key n s1 → HoldsSlot words table key n s4
            put_holds h = out_holds s1 s4 h (same4.0 ∙ (draws 0).table ∙ same.0) called told4.cell out4 (ap Some l.number) (is_told.number ∙ l.number)

            pub put_may : IsSomeAnd (slot_in s4.me.1) (λ content. MayPut (layouts_by words key) key.layouts.items s4.id n content (pass_in s4.me.0))
            put_may =
                subst (λ (z : ℕ × Seated P O R). IsSomeAnd (slot_in z.1.1) (λ content. MayPut (layouts_by words key) key.layouts.items z.0 n content (pass_in z.1.0))) (λ j. (sym id4 j, sym out4 j))
                (id_may.puts reply told4.cell is_stepped is_told)

            -- and put back
            pub called_cell : (s5 : Seat (Slot P O R) (View P O R)) → IfSome (slot_in s4.me.1) (λ content. HasMovedOnce words key (put n content) s4 s5)
                → HasCalledAt (layouts_by words key) key.layouts.items layout p n op old.id reply stamp v (pass_in s5.me.0)
            called_cell s5 puts =
                let moved = held_is (λ content. HasMovedOnce words key (put n content) s4 s5) (slot_in s4.me.1) told4.cell told4.is puts in
                record {
                  content = l.cell;
                  number = l.number;
                  lifted = lifted1;
                  rows = noted1;
                  stepped = is_stepped;
                  stamped = stamped;
                  drawn = λ found.
                      subst (λ (z : ℕ × (Seated P O R × PassView P O R)). Takes (layouts_by words key) key.layouts.items (draw_call (cell_listed (slot_in z.1.0.1)) op reply) z.0 (pass_in z.1.0.0) found z.1.1)
                      (λ j. ((same.1 ∙ l.moved.seat) j, (out2 j, ap (λ (m : Seated P O R). pass_in m.0) out3 j))) (draws found).takes;
                  told = told4.cell;
                  tells = is_told;
                  put =
                      subst (λ (z : ℕ × PassView P O R). Moves (layouts_by words key) key.layouts.items (put n told4.cell) z.0 z.1 (pass_in s5.me.0))
                      (λ j. (id4 j, ap (λ (m : Seated P O R). pass_in m.0) out4 j)) moved.moved;
                }

            pub called_same : (s5 : Seat (Slot P O R) (View P O R)) → IfSome (slot_in s4.me.1) (λ content. HasMovedOnce words key (put n content) s4 s5)
                → (s5.table_id ≡ old.table_id) × (s5.id ≡ old.id)
            called_same s5 puts =
                let moved = held_is (λ content. HasMovedOnce words key (put n content) s4 s5) (slot_in s4.me.1) told4.cell told4.is puts in (
                  moved.table ∙ same4.0 ∙ (draws 0).table ∙ same.0 ∙ l.moved.table,
                  moved.seat ∙ id4,
                )
