-- The steps on cells, as the table asks for them, and as contracts tell them.
use Rattle.std.proofs.Common.{◌≡◌, ℕ, ◌+◌, ◌<◌, Bool, true, false, cond, eqb, List, [], ◌∷◌, Some, None, sym, refl, ap, ◌∙◌, subst, get_or, set}
use Rattle.std.specs.List.{slice_get}
use Rattle.std.specs.Prelude.{Option, is_some, IfSome, IsSomeAnd}
use mathlib.Core.Option.{none, some}
use mathlib.Core.Option as maybe
use lib.ListN.{get_elem?}
use prog.Atomic.{either}
use Rattle.atomic_table.specs.Table.{State, Step, step, rest, takes, gives, Allows}
use Rattle.atomic_table.proofs.Lists.{set_here}
use Rattle.turn_core.specs.Events.{caller_locked}
use Rattle.turn_core.specs.State.{cell_at}
use Rattle.turn_core.specs.declared.event.TurnEvent.TheVariants.{Lock, Take, Put, Unlock}
use Rattle.k42_stamp.specs.Laws.{AreLaws}
use Rattle.k42_stamp.specs.Layouts.{Layouts}
use Rattle.k42_joined.specs.Effects.{effect}
use Rattle.k42_joined.specs.Event.{AtCells}
use Rattle.k42_joined.specs.Plain.{Joined}
use Rattle.k42_joined.specs.Possible.{IsPossible}
use Rattle.k42_joined.specs.State.{many_callers}
use Rattle.k42_board.specs.Cells.{Slot}
use Rattle.k42_board.specs.Parts.{IsPart}
use Rattle.k42_board.specs.Rule.{Rule, Ruled}
use Rattle.k42_board.specs.Log.{took, logs, put_at, has_swept}
use Rattle.k42_board.specs.Protocol.{lift, give_back, reach, put}
use Rattle.k42_board.specs.Stepping as stepping
use Rattle.k42_board.specs.Taking.{cell_at_lock, HoldsHome, MayLock, LockFound, MayPut, IsWhole, AreRowsNoted, Lifts, GivesBackKnown, Reaches, Puts, cell_given_view, gave_back, is_full, noted, ActIs, locked_view, tried_view, unlocked_view, reaching_view, lifted_view, put_view}
use Rattle.k42_board.specs.Words.{lock_word, slot_of}
use Rattle.k42_board.specs.declared.cell.Content as code
use Rattle.k42_board.specs.declared.view.Note.{Note}
use Rattle.k42_board.specs.declared.view.PassView.{PassView}
use Rattle.k42_board.specs.declared.view.StepName.TheVariants as steps
use Rattle.k42_board.specs.declared.view.Taken.{Taken}
use Rattle.k42_board.specs.declared.view.View.{View}
use Rattle.k42_board.specs.declared.view.View.TheVariants.{Crew}
use Rattle.k42_board.proofs.CellsApart.{at_within, cell_of_lock, cell_at_word}
use Rattle.k42_board.specs.Steps.{Seated, on_pass, Always, Tells, TellsWith, StepIs}
use Rattle.k42_board.specs.Seen.{IsSeatOf}
use Rattle.k42_board.specs.Views.{pass_in}
use Rattle.k42_board.proofs.CellsEvents.{locks, lock_found, unlocks, may_take, may_put, take_found, takes_away, gives_back, reach_found, reaches, puts, note_there}
use Rattle.k42_board.proofs.Moves.{Moves, Finds, seat_allowed, seat_allowed_with, seat_is}
use Rattle.k42_board.proofs.OnePass.{with_pass, known}
use Rattle.k42_board.proofs.Logged.{relogged, logged, logged_moves}
use Rattle.k42_board.proofs.PartLaws.{rows_noted}

abbrev pub lock_value : ℕ → ℕ → ℕ
lock_value c word = cond (eqb word 0) (c + 1) word

-- the pass once a slot has gone out with it, with a cell or empty
abbrev pub lifted : {P O R : Type 0} → ℕ → code.Content P O R → PassView P O R → PassView P O R
lifted n content v = took steps.Lift (lock_word n) 0 (lifted_view content v)

abbrev pub reached : {P O R : Type 0} → ℕ → PassView P O R → PassView P O R
reached n v = took steps.Reach (lock_word n) 0 (reaching_view n v)

-- and once the cell is back
abbrev pub replaced : {P O R : Type 0} → ℕ → code.Content P O R → PassView P O R → PassView P O R
replaced n content v = logs (put_at (lock_word n) (is_some content.part)) (put_view n v)

-- A pass may keep another record where that sweeps no more.
pub relogs : {S L P O R : Type 0} (F : Layouts S L P O R) (declared : List L) (table : State (Slot P O R) (View P O R)) (words : List ℕ) (homes : List (maybe.Option (Slot P O R)))
    (id : ℕ) (w : PassView P O R) {v : PassView P O R} → get_elem? table.views id ≡ some (Crew (v ∷ [])) → (r : Rule F declared (with_pass table words homes id w)) (log : List Taken)
    → ((o : ℕ) → has_swept log o ≡ true → has_swept w.log o ≡ true)
    → (after : Rule F declared (with_pass table words homes id (relogged w log))) × (after.state ≡ r.state)
relogs F declared table words homes id w {v} at r log sweeps =
    let there = set_here table.views id (Crew (w ∷ [])) (at_within table.views id (Crew (v ∷ [])) at) in
    logged F declared table words homes id w at r log
    (λ o n is. (known F declared (with_pass table words homes id w) r id w there).phases.rows.swept o n (sweeps o is))

module _ {S L P O R : Type 0} (F : Layouts S L P O R) (laws : AreLaws F) (declared : List L) (id n : ℕ) (v : PassView P O R) where
  abbrev i : ℕ
  i = lock_word n

  lock_goes : MayLock F.procs n v → v.out ≡ None
      → Moves F declared (AtCells (Lock v.number n)) (lock_word n) (lock_value v.number) (locked_view n) id v
  lock_goes may idle = record { from = λ table r at. locks F laws declared table r id v at n may idle }

  pub lock_moves : MayLock F.procs n v → v.out ≡ None
      → Moves F declared (AtCells (Lock v.number n)) (lock_word n) (lock_value v.number) (λ found v. took steps.Lock (lock_word n) found (locked_view n found v)) id v
  lock_moves may idle = logged_moves steps.Lock (λ n. n) (λ found o before is. is) (lock_goes may idle)

  -- a try that finds the lock with another leaves words and views as they are
  pub try_moves : MayLock F.procs n v → v.out ≡ None
      → Moves F declared (AtCells (Lock v.number n)) (lock_word n) (lock_value v.number) (tried_view (lock_word n) n) id v
  try_moves may idle = record {
    from = λ table r at.
        let found : ℕ = get_or table.words (lock_word n) 0 in
        by_test
        (λ w.
        (after : Rule F declared (with_pass table (set table.words (lock_word n) (lock_value v.number found)) table.homes id w))
        × (after.state ≡ effect r.state (AtCells (Lock v.number n))) × IsPossible F declared r.state (AtCells (Lock v.number n)))
        found ((lock_moves may idle).from table r at) ((lock_goes may idle).from table r at) (eqb found 0) refl;
  } where
    by_test : (IsAfter : PassView P O R → Type 0) (found : ℕ) → IsAfter (took steps.Lock (lock_word n) found (locked_view n found v)) → IsAfter (locked_view n found v)
        → (b : Bool) → eqb found 0 ≡ b → IsAfter (cond b (took steps.Lock (lock_word n) found (locked_view n found v)) v)
    by_test IsAfter found logged plain true e = logged
    by_test IsAfter found logged plain false e = subst IsAfter (λ k. record v { taker = cond (e k) (caller_locked n v.taker) v.taker }) plain

  pub lock_finds : MayLock F.procs n v → Finds F declared (lock_word n) (LockFound n) id v
  lock_finds may table r at = lock_found F laws declared table r id v at n may

  unlock_goes : HoldsHome n v → v.out ≡ None
      → Moves F declared (AtCells (Unlock v.number n)) (lock_word n) (λ word. 0) (λ found. unlocked_view n) id v
  unlock_goes may idle = record { from = λ table r at. unlocks F laws declared table r id v at n may idle }

  pub unlock_moves : HoldsHome n v → v.out ≡ None
      → Moves F declared (AtCells (Unlock v.number n)) (lock_word n) (λ word. 0) (λ found v. took steps.Unlock (lock_word n) 0 (unlocked_view n v)) id v
  unlock_moves may idle = logged_moves steps.Unlock (λ n. 0) (λ found o before is. is) (unlock_goes may idle)

  pub take_is : HoldsHome n v → v.out ≡ None → (content : code.Content P O R)
      → ActIs F declared (λ s. effect s (AtCells (Take v.number n))) (lock_word n) id [] v (takes (slot_of n) (Some content)) (lifted n content v)
  take_is may idle content table r at valid =
      let after = takes_away F laws declared table r id v at n may idle content valid in
      let again = relogs F declared table _ _ id (lifted_view content v) at after.0 _ (λ o is. is) in (again.0, again.1 ∙ after.1)

  pub give_is : v.out ≡ Some n → ActIs F declared (λ s. s) (lock_word n) id ((slot_of n, None) ∷ []) v gives (gave_back (lock_word n) v)
  give_is out table r at valid =
      let after = gives_back F laws declared table r id v at n out in
      let again = relogs F declared table _ _ id (cell_given_view v) at after.0 _ (λ o is. is) in (again.0, again.1 ∙ after.1)

  pub reach_is : v.out ≡ None → (place : ℕ) (note : Note P O R) → slice_get v.notes place ≡ Some note → note.cell ≡ n
      → ActIs F declared (λ s. s) (lock_word n) id [] v (takes (slot_of n) None) (reached n v)
  reach_is idle place note e named table r at valid =
      let after = reaches F laws declared table r id v at n idle place note e named in
      let again = relogs F declared table _ _ id (reaching_view n v) at after.0 _ (λ o is. is) in (again.0, again.1 ∙ after.1)

  -- what it knew in every state before it reached for a slot it knows still
  pub always_reached : v.out ≡ None → (Q : Joined L O R → Type 0) → Always F declared id v Q → Always F declared id (reached n v) Q
  always_reached idle Q always table r at =
      let back = gives_back F laws declared table r id (reached n v) at n refl in
      let again = relogs F declared table _ _ id (cell_given_view (reached n v)) at back.0 v.log (λ o is. is) in
      let same : relogged (cell_given_view (reached n v)) v.log ≡ v = λ k. record v { out = sym idle k } in
      let there = set_here table.views id (Crew (relogged (cell_given_view (reached n v)) v.log ∷ [])) (at_within table.views id (Crew (reached n v ∷ [])) at) in
      subst Q (again.1 ∙ back.1) (always _ again.0 (there ∙ (λ k. some (Crew (same k ∷ [])))))

  pub put_is : (content : code.Content P O R) → MayPut F declared id n content v → v.out ≡ None
      → ActIs F declared (λ s. effect s (AtCells (Put v.number n))) (lock_word n) id ((slot_of n, Some content) ∷ []) (reached n v) gives (replaced n content (reached n v))
  put_is content may idle table r at valid =
      let after =
      puts F laws declared table r id (reached n v) at n refl may.place may.note may.noted may.named content may.whole
      (always_reached idle (λ s. IsPart F declared s n content.part) may.part table r at) in
      let again = relogs F declared table _ _ id (put_view n (reached n v)) at after.0 _ (λ o is. is) in (again.0, again.1 ∙ after.1)

  -- what it knows of a cell that it has taken
  pub whole_always : (place : ℕ) (content : code.Content P O R) → slice_get v.notes place ≡ Some (noted content) → content.number ≡ n
      → Always F declared id v (IsWhole F declared n content)
  whole_always place content e named table r at =
      let is = (known F declared table r id v at).cells.notes place (noted content) e in
      let there = note_there F laws declared table r id v at n place (noted content) e named in
      record {
        history = ap (λ k. (cell_at r.state.turns k).history) (sym named) ∙ is.history;
        closed = ap (λ k. (cell_at r.state.turns k).closed) (sym named) ∙ is.closed;
        part = subst (IsPart F declared r.state n) (ap r.beside.contents.part (sym named) ∙ is.part) (r.parts n there);
      }

  -- what a pass knows of rows does not hang on the slot that is out with it
  rows_given : AreRowsNoted F declared v → AreRowsNoted F declared (gave_back (lock_word n) v)
  rows_given is = record { inside = is.inside; moved = is.moved }

  pub take_possible_always : HoldsHome n v → Always F declared id v (λ s. IsPossible F declared s (AtCells (Take v.number n)))
  take_possible_always may table r at = may_take F laws declared table r id v at n may

  pub put_possible_always : (place : ℕ) (note : Note P O R) → slice_get v.notes place ≡ Some note → note.cell ≡ n
      → Always F declared id (reached n v) (λ s. IsPossible F declared s (AtCells (Put v.number n)))
  put_possible_always place note e named table r at = may_put F laws declared table r id (reached n v) at n place note e named

  -- a move of a slot makes no caller
  still_ruled : (callers : ℕ) {table after : State (Slot P O R) (View P O R)} (r : Ruled F declared callers table) {t : Joined L O R} → (new : Rule F declared after) × (new.state ≡ t)
      → many_callers t ≡ many_callers r.rule.state → Ruled F declared callers after
  still_ruled callers r new same = record { rule = new.0; many = ap many_callers new.1 ∙ same ∙ r.many }

  module _ (callers : ℕ) (few : n < 256) where
    same_cell : n ≡ cell_at_lock (lock_word n)
    same_cell = sym (cell_of_lock n few)

    pub lift_allowed : HoldsHome n v → v.out ≡ None → (slots : ℕ)
        → Allows (Ruled F declared callers) slots id (Crew (v ∷ []), []) (lock_word n) (λ word. word) (Lifts (step slots (lock_word n) 0 0 none) (Crew (v ∷ []), []))
    lift_allowed may idle slots table r long at fits =
        let has = take_found F laws declared table r.rule id v at n may in
        let after = take_is may idle has.0 table r.rule at has.1 in
        (Crew (lifted n has.0 v ∷ []), takes (slot_of n) (Some has.0), has.1, still_ruled callers r after refl, (has.0, has.2 ∙ same_cell, λ k. (Crew (lifted n has.0 v ∷ []), (slot_of (same_cell k), Some has.0) ∷ [])))

    pub give_allowed : (Known : PassView P O R → Type 0) → ((w : PassView P O R) → AreRowsNoted F declared w → Known w) → v.out ≡ Some n → (slots : ℕ)
        → Allows (Ruled F declared callers) slots id (Crew (v ∷ []), (slot_of n, None) ∷ []) (lock_word n) (λ word. word)
        (GivesBackKnown Known (step slots (lock_word n) 0 0 none) (Crew (v ∷ []), (slot_of n, None) ∷ []))
    give_allowed Known known' out slots table r long at fits =
        let after = give_is out table r.rule at tt in
        let noted' = rows_given (rows_noted F laws declared table r.rule id v at) in
        (Crew (gave_back (lock_word n) v ∷ []), gives, tt, still_ruled callers r after refl, (refl, known' (gave_back (lock_word n) v) noted'))

    pub reach_allowed : v.out ≡ None → (place : ℕ) (note : Note P O R) → slice_get v.notes place ≡ Some note → note.cell ≡ n → (slots : ℕ)
        → Allows (Ruled F declared callers) slots id (Crew (v ∷ []), []) (lock_word n) (λ word. word) (Reaches (step slots (lock_word n) 0 0 none) (Crew (v ∷ []), []))
    reach_allowed idle place note e named slots table r long at fits =
        let empty = reach_found F laws declared table r.rule id v at n idle place note e named in
        let after = reach_is idle place note e named table r.rule at empty in
        (Crew (reached n v ∷ []), takes (slot_of n) None, empty, still_ruled callers r after refl, λ k. (Crew (took steps.Reach (lock_word n) 0 (reaching_view (same_cell k) v) ∷ []), (slot_of (same_cell k), None) ∷ []))

    pub put_allowed : (content : code.Content P O R) → MayPut F declared id n content v → v.out ≡ None → (slots : ℕ)
        → Allows (Ruled F declared callers) slots id (Crew (reached n v ∷ []), (slot_of n, Some content) ∷ []) (lock_word n) (λ word. word)
        (Puts (step slots (lock_word n) 0 0 none) (Crew (reached n v ∷ []), (slot_of n, Some content) ∷ []))
    put_allowed content may idle slots table r long at fits =
        let after = put_is content may idle table r.rule at tt in
        (Crew (replaced n content (reached n v) ∷ []), gives, tt, still_ruled callers r after refl, λ k. (Crew (logs (put_at (lock_word n) (is_some content.part)) (put_view (same_cell k) (reached n v)) ∷ []), []))

pub lock_either : (b : Bool) (new word : ℕ) → either b new word ≡ cond b new word
lock_either true new word = refl
lock_either false new word = refl

-- what becomes of a pass by the step on this word
abbrev pub locks_at : {P O R : Type 0} → (word n : ℕ) → ℕ → PassView P O R → PassView P O R
locks_at word n found v = took steps.Lock word found (locked_view n found v)

abbrev pub unlocks_at : {P O R : Type 0} → (word n : ℕ) → ℕ → PassView P O R → PassView P O R
unlocks_at word n found v = took steps.Unlock word 0 (unlocked_view n v)

module _ {S L P O R : Type 0} (F : Layouts S L P O R) (laws : AreLaws F) (declared : List L) (id n : ℕ) (v : PassView P O R) (me : Seated P O R) (is : IsSeatOf me v)
    (idle : v.out ≡ None) where
  -- by a step that takes the lock, and keeps this of it
  module _ (locks_to : (word n : ℕ) → ℕ → PassView P O R → PassView P O R)
      (moves : Moves F declared (AtCells (Lock v.number n)) (lock_word n) (lock_value v.number) (locks_to (lock_word n) n) id v) where
    pub lock_allowed : {callers : ℕ} → MayLock F.procs n v → (new : ℕ) → new ≡ v.number + 1 → (slots : ℕ)
        → Allows (Ruled F declared callers) slots id me (lock_word n) (λ word. either (eqb word 0) new word)
        (TellsWith (locks_to (lock_word n) (cell_at_lock (lock_word n))) (LockFound (cell_at_lock (lock_word n))) (step slots (lock_word n) 0 new none) me)
    lock_allowed {callers} may new same slots =
        subst (λ (z : (ℕ → ℕ) × ℕ). Allows (Ruled F declared callers) slots id me (lock_word n) z.0 (TellsWith (locks_to (lock_word n) z.1) (LockFound z.1) (step slots (lock_word n) 0 new none) me))
        (λ k. ((λ word. (ap (λ c. cond (eqb word 0) c word) (sym same) ∙ sym (lock_either (eqb word 0) new word)) k), sym (cell_of_lock n may.cell) k))
        (seat_allowed_with moves (LockFound n) (lock_finds F laws declared id n v may) me is slots (step slots (lock_word n) 0 new none))

    -- what it tells, at a word that is the cell's
    pub lock_told : MayLock F.procs n v → (word : ℕ) → word ≡ lock_word n → (step : Step (Slot P O R)) (found : ℕ) (after : Seated P O R)
        → TellsWith (locks_to word (cell_at_lock word)) (LockFound (cell_at_lock word)) step me found after
        → TellsWith (locks_to (lock_word n) n) (LockFound n) step me found after
    lock_told may word same step found after told =
        subst (λ (z : ℕ × ℕ). TellsWith (locks_to z.0 z.1) (LockFound z.1) step me found after) (λ k. (same k, cell_at_word n may.cell word same k)) told

    pub lock_is : (after : Seated P O R) (step : Step (Slot P O R)) (found : ℕ) → Tells (locks_to (lock_word n) n) step me found after
        → StepIs F declared (AtCells (Lock v.number n)) (lock_word n) (lock_value v.number) id v found (pass_in after.0)
    lock_is after step found told = seat_is moves me after is step found told

  pub unlock_allowed : {callers : ℕ} → HoldsHome n v → (slots : ℕ)
      → Allows (Ruled F declared callers) slots id me (lock_word n) (λ word. 0)
      (λ word. Tells (unlocks_at (lock_word n) (cell_at_lock (lock_word n))) (step slots (lock_word n) 0 0 none) me 0)
  unlock_allowed {callers} may slots =
      subst (λ z. Allows (Ruled F declared callers) slots id me (lock_word n) (λ word. 0) (λ word. Tells (unlocks_at (lock_word n) z) (step slots (lock_word n) 0 0 none) me 0))
      (sym (cell_of_lock n may.cell))
      (seat_allowed (unlock_moves F laws declared id n v may idle) me is slots (step slots (lock_word n) 0 0 none))

  pub unlock_told : HoldsHome n v → (word : ℕ) → word ≡ lock_word n → (step : Step (Slot P O R)) (found : ℕ) (after : Seated P O R)
      → Tells (unlocks_at word (cell_at_lock word)) step me 0 after → Tells (unlocks_at (lock_word n) n) step me found after
  unlock_told may word same step found after told =
      subst (λ (z : ℕ × ℕ). Tells (unlocks_at z.0 z.1) step me found after) (λ k. (same k, cell_at_word n may.cell word same k)) told

  pub unlock_is : (may : HoldsHome n v) → (after : Seated P O R) (step : Step (Slot P O R)) (found : ℕ) → Tells (unlocks_at (lock_word n) n) step me found after
      → StepIs F declared (AtCells (Unlock v.number n)) (lock_word n) (λ word. 0) id v found (pass_in after.0)
  unlock_is may after step found told = seat_is (unlock_moves F laws declared id n v may idle) me after is step found told

  pub lift_seat : {callers : ℕ} → HoldsHome n v → (slots : ℕ)
      → Allows (Ruled F declared callers) slots id me (lock_word n) (λ word. word) (Lifts (step slots (lock_word n) 0 0 none) me)
  lift_seat {callers} may slots =
      subst (λ (m : Seated P O R). Allows (Ruled F declared callers) slots id m (lock_word n) (λ word. word) (Lifts (step slots (lock_word n) 0 0 none) m)) (sym is)
      (lift_allowed F laws declared id n v callers may.cell may idle slots)

  -- the slot comes back from any seat that has it
  pub give_seat : {callers : ℕ} (Known : PassView P O R → Type 0) → ((w : PassView P O R) → AreRowsNoted F declared w → Known w) → (few : n < 256) (content : code.Content P O R) → content.number ≡ n
      → (now : Seated P O R) → now ≡ (Crew (lifted n content v ∷ []), (slot_of n, None) ∷ []) → (slots : ℕ)
      → Allows (Ruled F declared callers) slots id now (lock_word n) (λ word. word) (GivesBackKnown Known (step slots (lock_word n) 0 0 none) now)
  give_seat {callers} Known known' few content number now same slots =
      subst (λ (m : Seated P O R). Allows (Ruled F declared callers) slots id m (lock_word n) (λ word. word) (GivesBackKnown Known (step slots (lock_word n) 0 0 none) m)) (sym same)
      (give_allowed F laws declared id n (lifted n content v) callers few Known known' (ap Some number) slots)

  pub reach_seat : {callers : ℕ} (content : code.Content P O R) → MayPut F declared id n content v → (slots : ℕ)
      → Allows (Ruled F declared callers) slots id me (lock_word n) (λ word. word) (Reaches (step slots (lock_word n) 0 0 none) me)
  reach_seat {callers} content may slots =
      subst (λ (m : Seated P O R). Allows (Ruled F declared callers) slots id m (lock_word n) (λ word. word) (Reaches (step slots (lock_word n) 0 0 none) m)) (sym is)
      (reach_allowed F laws declared id n v callers may.cell idle may.place may.note may.noted may.named slots)

  pub put_seat : {callers : ℕ} (content : code.Content P O R) → MayPut F declared id n content v → (now : Seated P O R) → now ≡ (Crew (reached n v ∷ []), (slot_of n, Some content) ∷ [])
      → (seat : ℕ) → seat ≡ id → (slots : ℕ)
      → Allows (Ruled F declared callers) slots seat now (lock_word n) (λ word. word) (Puts (step slots (lock_word n) 0 0 none) now)
  put_seat {callers} content may now same seat here slots =
      subst (λ (z : ℕ × Seated P O R). Allows (Ruled F declared callers) slots z.0 z.1 (lock_word n) (λ word. word) (Puts (step slots (lock_word n) 0 0 none) z.1))
      (λ k. (sym here k, sym same k)) (put_allowed F laws declared id n v callers may.cell content may idle slots)

module _ {P O R : Type 0} (n : ℕ) (v : PassView P O R) (me : Seated P O R) (is : IsSeatOf me v) (few : n < 256) (word : ℕ) (same : word ≡ lock_word n) where
  here : cell_at_lock word ≡ n
  here = cell_at_word n few word same

  -- the seat after the slot went out with it
  pub lifted_seat : (content : code.Content P O R) (after : Seated P O R)
      → after ≡ (on_pass (λ v. took steps.Lift word 0 (lifted_view content v)) me.0, (slot_of (cell_at_lock word), Some content) ∷ me.1)
      → after ≡ (Crew (lifted n content v ∷ []), (slot_of n, Some content) ∷ [])
  lifted_seat content after told =
      told ∙ (λ k. (on_pass (λ v. took steps.Lift (same k) 0 (lifted_view content v)) (is k).0, (slot_of (here k), Some content) ∷ (is k).1))

  pub reached_seat : (after : Seated P O R)
      → after ≡ (on_pass (λ v. took steps.Reach word 0 (reaching_view (cell_at_lock word) v)) me.0, (slot_of (cell_at_lock word), None) ∷ me.1)
      → after ≡ (Crew (reached n v ∷ []), (slot_of n, None) ∷ [])
  reached_seat after told =
      told ∙ (λ k. (on_pass (λ v. took steps.Reach (same k) 0 (reaching_view (here k) v)) (is k).0, (slot_of (here k), None) ∷ (is k).1))

  -- and after it came back
  pub given_seat : (w : PassView P O R) (slot : ℕ) (now after : Seated P O R) → now ≡ (Crew (w ∷ []), (slot, None) ∷ []) → after ≡ (on_pass (gave_back word) now.0, rest now.1)
      → after ≡ (Crew (gave_back (lock_word n) w ∷ []), [])
  given_seat w slot now after at told = told ∙ (λ k. (on_pass (gave_back (same k)) (at k).0, rest (at k).1))

  pub put_seated : (content : code.Content P O R) (w : PassView P O R) (slot : ℕ) (now after : Seated P O R) → now ≡ (Crew (w ∷ []), (slot, Some content) ∷ [])
      → after ≡ (on_pass (λ v. logs (put_at word (is_full now.1)) (put_view (cell_at_lock word) v)) now.0, rest now.1)
      → after ≡ (Crew (replaced n content w ∷ []), [])
  put_seated content w slot now after at told =
      told ∙ (λ k. (on_pass (λ v. logs (put_at (same k) (is_full (at k).1)) (put_view (here k) v)) (at k).0, rest (at k).1))

-- what it knows as the slot comes back, it knows after that
pub given_known : {P O R : Type 0} (Known : PassView P O R → Type 0) (word : ℕ) (me after : Seated P O R) (w : PassView P O R) (carried : List (ℕ × Slot P O R)) → me ≡ (Crew (w ∷ []), carried)
    → after ≡ (on_pass (gave_back word) me.0, rest me.1) → Known (gave_back word (pass_in me.0)) → Known (pass_in after.0)
given_known {O} {R} Known word me after w carried is told known =
    subst Known (sym (ap (λ (m : Seated _ O R). pass_in m.0) told ∙ ap (λ (m : Seated _ O R). pass_in (on_pass (gave_back word) m.0)) is))
    (subst (λ (m : Seated _ O R). Known (gave_back word (pass_in m.0))) is known)

-- the slot that went out, and what an exchange leaves of the seat
module _ {P O R : Type 0} (out : Seated P O R) (w : PassView P O R) (slot : ℕ) (y : Slot P O R) (is : out ≡ (Crew (w ∷ []), (slot, y) ∷ [])) (at : ℕ) (same : at ≡ slot) where
  pub slot_out : (old : Slot P O R) × (out.1 ≡ (at, old) ∷ rest out.1)
  slot_out = let carried = ap (λ (m : Seated P O R). m.1) is in (y, carried ∙ (λ k. (sym same k, y) ∷ rest (sym carried k)))

  pub slot_result : (result : Slot P O R) → out.1 ≡ (at, result) ∷ rest out.1 → y ≡ result
  slot_result result e = first_of_two (sym (ap (λ (m : Seated P O R). m.1) is) ∙ e) where
    first_of : {x z : ℕ × Slot P O R} {c d : List (ℕ × Slot P O R)} → x ∷ c ≡ z ∷ d → x ≡ z
    first_of e = cc

    first_of_two : {c d : List (ℕ × Slot P O R)} → (slot, y) ∷ c ≡ (at, result) ∷ d → y ≡ result
    first_of_two e = ap (λ (x : ℕ × Slot P O R). x.1) (first_of e)

  pub exchanged : (now : Seated P O R) (z : Slot P O R) → now ≡ (out.0, (at, z) ∷ rest out.1) → now ≡ (Crew (w ∷ []), (slot, z) ∷ [])
  exchanged now z e = e ∙ (λ k. ((is k).0, (same k, z) ∷ rest (is k).1))

-- what is held
pub held_one : {A : Type 0} {B : A → Type 0} (held : Option A) → IsSomeAnd held B → (content : A) × (held ≡ Some content) × B content
held_one (Some content) is = (content, refl, is)
held_one None is = absurd is

pub held_each : {A : Type 0} {B C : A → Type 0} (held : Option A) → ((content : A) → B content → C content) → IfSome held B → IfSome held C
held_each None goes is = tt
held_each (Some content) goes is = goes content is

pub held_is : {A : Type 0} (B : A → Type 0) (held : Option A) (content : A) → held ≡ Some content → IfSome held B → B content
held_is B held content e is = subst (λ h. IfSome h B) e is

pub held_now : {A : Type 0} (B : A → Type 0) (held : Option A) (content : A) → held ≡ Some content → B content → IfSome held B
held_now B held content e is = subst (λ h. IfSome h B) (sym e) is

module _ {S L P O R : Type 0} (F : Layouts S L P O R) (laws : AreLaws F) (declared : List L) (id n : ℕ) (v : PassView P O R) (idle : v.out ≡ None) where
  -- the slot goes out with its cell, and comes back empty
  pub takes_out : HoldsHome n v → (content : code.Content P O R) → stepping.Moves F declared (lift n content) id v (lifted n content v)
  takes_out may content = record {
    knows = refl;
    possible = take_possible_always F laws declared id n v may;
    event = take_is F laws declared id n v may idle content;
  }

  pub takes_back : (content : code.Content P O R) → content.number ≡ n → (w : PassView P O R) → gave_back (lock_word n) (lifted n content v) ≡ w
      → stepping.Moves F declared (give_back n) id (lifted n content v) w
  takes_back content number w same =
      subst (λ z. stepping.Moves F declared (give_back n) id (lifted n content v) z) same (record {
        knows = refl;
        possible = λ table r at. tt;
        event = give_is F laws declared id n (lifted n content v) (ap Some number);
      })

  pub taken_whole : (content : code.Content P O R) → content.number ≡ n → (w : PassView P O R) → gave_back (lock_word n) (lifted n content v) ≡ w
      → Always F declared id w (IsWhole F declared n content)
  taken_whole content number w same =
      subst (λ z. Always F declared id z (IsWhole F declared n content)) same
      (whole_always F laws declared id n (gave_back (lock_word n) (lifted n content v)) 0 content refl number)

  -- the slot goes out empty, and comes back with the cell
  pub puts_out : (content : code.Content P O R) → MayPut F declared id n content v → stepping.Moves F declared (reach n) id v (reached n v)
  puts_out content may = record {
    knows = refl;
    possible = λ table r at. tt;
    event = reach_is F laws declared id n v idle may.place may.note may.noted may.named;
  }

  pub puts_back : (content : code.Content P O R) → MayPut F declared id n content v → (w : PassView P O R) → replaced n content (reached n v) ≡ w
      → stepping.Moves F declared (put n content) id (reached n v) w
  puts_back content may w same =
      subst (λ z. stepping.Moves F declared (put n content) id (reached n v) z) same (record {
        knows = refl;
        possible = put_possible_always F laws declared id n v may.place may.note may.noted may.named;
        event = put_is F laws declared id n v content may idle;
      })
