-- Copies of the state keep the laws of ways.
use Rattle.std.proofs.Common.{◌≡◌, ℕ, zero, suc, ◌<◌, ◌==◌, Bool, true, false, IsTrue, ◌||◌, if◌then◌else◌, List, [], ◌∷◌, ◌++◌, length, map, replicate, Some, option_map, refl, sym, ap, subst, ◌∙◌, arith}
use Rattle.std.specs.Prelude.{slice_index_or}
use Rattle.std.proofs.lemmas.Bool.{eqb-true}
use Rattle.std.proofs.ByRecursion.{All-append as every_append}
use Rattle.std.proofs.lemmas.List.{length-replicate}
use Rattle.std.proofs.lemmas.List.Sums.{fold-append}
use Rattle.k42_shapes.specs.declared.shape.Shape.{Shape}
use Rattle.k42_shapes.specs.Shapes.{cells_of, cell_called}
use Rattle.k42_shapes.proofs.ShapeLaws.{cell_within, some_cells}
use Rattle.k42_kinds.specs.declared.entry.Reach.TheVariants.{One, All}
use Rattle.k42_kinds.specs.OneThread.{OneThread}
use Rattle.k42_kinds.specs.Rows.{IsWithin, changed_at, part_at, made_from}
use Rattle.k42_kinds.specs.LayoutLaws.{StepsRow, StandsFor, Imports}
use Rattle.k42_choice.specs.Living.{IsKeptAlike, IsRowOfNew}
use Rattle.k42_copies.specs.Copies.{AreCopies, IsReachable, copies, copies_reach, first_of}

module _ {S : Type 0} where
  pub map-replicate : (change : S → S) (many : ℕ) (state : S) → map change (replicate many state) ≡ replicate many (change state)
  map-replicate change zero state = refl
  map-replicate change (suc more) state = ap (λ (row : List S). change state ∷ row) (map-replicate change more state)

  pub first-replicate : (many : ℕ) (state other : S) → 0 < many → slice_index_or (replicate many state) 0 other ≡ state
  first-replicate zero state other some = absurd (omega arith)
  first-replicate (suc more) state other some = refl

  made-replicate : (state : S) (first many : ℕ) → made_from (λ cell. state) first many ≡ replicate many state
  made-replicate state first zero = refl
  made-replicate state first (suc more) = ap (λ (row : List S). state ∷ row) (made-replicate state (suc first) more)

  part-replicate : (many cell : ℕ) (state : S) → cell < many → part_at (replicate many state) cell ≡ Some state
  part-replicate zero cell state there = absurd (omega arith)
  part-replicate (suc more) zero state there = refl
  part-replicate (suc more) (suc cell) state there = part-replicate more cell state (omega arith)

  changed-same : (change : S → S) (many cell : ℕ) (state : S) → change state ≡ state → changed_at change (replicate many state) cell ≡ replicate many state
  changed-same change zero cell state stays = refl
  changed-same change (suc more) zero state stays = ap (λ (first : S). first ∷ replicate more state) stays
  changed-same change (suc more) (suc cell) state stays = ap (λ (row : List S). state ∷ row) (changed-same change more cell state stays)

  -- a change of the only cell is one of all
  changed-only : (change : S → S) (many cell : ℕ) (state : S) → many ≡ 1 → cell < many → changed_at change (replicate many state) cell ≡ replicate many (change state)
  changed-only change zero cell state only there = absurd (omega arith)
  changed-only change (suc zero) zero state only there = refl
  changed-only change (suc zero) (suc cell) state only there = absurd (omega arith)
  changed-only change (suc (suc more)) cell state only there = absurd (omega arith)

module _ {S O R : Type 0} (object : OneThread S O R) where
  pub begun : IsReachable object object.start
  begun = record { ops = []; taken = tt; reached = refl }

  pub reachable_after : (state : S) (op : O) → IsTrue (object.takes op) → IsReachable object state → IsReachable object (object.after state op)
  reachable_after state op takes reachable = record {
    ops = reachable.ops ++ op ∷ [];
    taken = every_append (λ op. IsTrue (object.takes op)) reachable.ops (op ∷ []) reachable.taken (takes, tt);
    reached = fold-append object.after object.start reachable.ops (op ∷ []) ∙ ap (λ (s : S). object.after s op) reachable.reached;
  }

  module _ (reads : O → Bool) (shape : Shape) (procs : ℕ) where
    copies_of : (state : S) → 0 < cells_of shape procs → IsReachable object state → AreCopies object shape procs (replicate (cells_of shape procs) state)
    copies_of state some reachable =
        let first = first-replicate (cells_of shape procs) state object.start some in
        record {
          same = ap (replicate (cells_of shape procs)) (sym first);
          reachable = subst (IsReachable object) (sym first) reachable;
        }

    -- an operation that makes copies of the next state of copies of a state
    moved_copies : (state : S) (op : O) (row : List S) → 0 < cells_of shape procs → row ≡ replicate (cells_of shape procs) (object.after state op)
        → first_of object row ≡ object.after (first_of object (replicate (cells_of shape procs) state)) op
    moved_copies state op row some moved =
        ap (first_of object) moved
        ∙ first-replicate (cells_of shape procs) (object.after state op) object.start some
        ∙ ap (λ (s : S). object.after s op) (sym (first-replicate (cells_of shape procs) state object.start some))

    whole_copies : (state : S) (op : O) (row : List S) → 0 < cells_of shape procs → row ≡ replicate (cells_of shape procs) (object.after state op)
        → IsTrue (object.takes op) → IsReachable object state → AreCopies object shape procs row
    whole_copies state op row some moved takes reachable =
        subst (AreCopies object shape procs) (sym moved) (copies_of (object.after state op) some (reachable_after state op takes reachable))

    all_step : (state : S) (op : O) → 0 < cells_of shape procs → IsTrue (object.takes op) → IsReachable object state
        → StepsRow object (copies object reads shape) (AreCopies object shape procs) (replicate (cells_of shape procs) state) op All
    all_step state op some takes reachable =
        let moved = map-replicate (λ s. object.after s op) (cells_of shape procs) state in
        record {
          whole = whole_copies state op _ some moved takes reachable;
          moved = moved_copies state op _ some moved;
          replied = refl;
        }

    one_steps : (cell : ℕ) (state : S) (op : O) → cell < cells_of shape procs
        → changed_at (λ s. object.after s op) (replicate (cells_of shape procs) state) cell ≡ replicate (cells_of shape procs) (object.after state op)
        → IsTrue (object.takes op) → IsReachable object state
        → StepsRow object (copies object reads shape) (AreCopies object shape procs) (replicate (cells_of shape procs) state) op (One cell)
    one_steps cell state op there moved takes reachable =
        let some : 0 < cells_of shape procs = omega (arith, there) in
        record {
          whole = whole_copies state op _ some moved takes reachable;
          moved = moved_copies state op _ some moved;
          replied =
              ap (option_map (λ s. object.reply s op)) (part-replicate (cells_of shape procs) cell state there)
              ∙ ap (λ (s : S). Some (object.reply s op)) (sym (first-replicate (cells_of shape procs) state object.start some));
        }

    steps_by : (only read : Bool) (cell : ℕ) (state : S) (op : O)
        → (only ≡ true → cells_of shape procs ≡ 1) → (read ≡ true → object.after state op ≡ state)
        → cell < cells_of shape procs → IsTrue (object.takes op) → IsReachable object state
        → StepsRow object (copies object reads shape) (AreCopies object shape procs) (replicate (cells_of shape procs) state) op (if only || read then One cell else All)
    steps_by true read cell state op is_only leaves there takes reachable =
        one_steps cell state op there (changed-only (λ s. object.after s op) (cells_of shape procs) cell state (is_only refl) there) takes reachable
    steps_by false true cell state op is_only leaves there takes reachable =
        one_steps cell state op there
        (changed-same (λ s. object.after s op) (cells_of shape procs) cell state (leaves refl) ∙ ap (replicate (cells_of shape procs)) (sym (leaves refl)))
        takes reachable
    steps_by false false cell state op is_only leaves there takes reachable = all_step state op (omega (arith, there)) takes reachable

    pub steps_at_reach : (proc : ℕ) (row : List S) (op : O)
        → ((state : S) (op : O) → reads op ≡ true → object.after state op ≡ state)
        → proc < procs → IsTrue (object.takes op) → AreCopies object shape procs row
        → StepsRow object (copies object reads shape) (AreCopies object shape procs) row op (copies_reach reads shape procs op proc)
    steps_at_reach proc row op leaves there takes whole =
        subst (λ (r : List S). StepsRow object (copies object reads shape) (AreCopies object shape procs) r op (copies_reach reads shape procs op proc)) (sym whole.same)
        (steps_by (cells_of shape procs == 1) (reads op) (cell_called shape proc) (first_of object row) op
        (eqb-true (cells_of shape procs) 1) (leaves (first_of object row) op) (cell_within shape proc procs there) takes whole.reachable)

    pub steps_at_all : (row : List S) (op : O) → 0 < procs → IsTrue (object.takes op) → AreCopies object shape procs row
        → StepsRow object (copies object reads shape) (AreCopies object shape procs) row op All
    steps_at_all row op some takes whole =
        subst (λ (r : List S). StepsRow object (copies object reads shape) (AreCopies object shape procs) r op All) (sym whole.same)
        (all_step (first_of object row) op (some_cells shape procs some) takes whole.reachable)

    within_by : (here : Bool) (cell : ℕ) → cell < cells_of shape procs → IsWithin (cells_of shape procs) (if here then One cell else All)
    within_by true cell there = there
    within_by false cell there = omega (arith, there)

    pub reach_within : (op : O) (proc : ℕ) → proc < procs → IsWithin (cells_of shape procs) (copies_reach reads shape procs op proc)
    reach_within op proc there = within_by ((cells_of shape procs == 1) || reads op) (cell_called shape proc) (cell_within shape proc procs there)

    pub stand_for_state : (row : List S) → AreCopies object shape procs row → StandsFor (copies object reads shape) (IsReachable object) shape procs row
    stand_for_state row whole = record {
      sized = ap length whole.same ∙ length-replicate (cells_of shape procs) (first_of object row);
      served = whole.reachable;
    }

    pub begin_row : 0 < procs → IsRowOfNew object (copies object reads shape) (AreCopies object shape procs) shape procs
    begin_row some =
        let made = made-replicate object.start 0 (cells_of shape procs) in
        record {
          whole = subst (AreCopies object shape procs) (sym made) (copies_of object.start (some_cells shape procs some) begun);
          empty = ap (first_of object) made ∙ first-replicate (cells_of shape procs) object.start object.start (some_cells shape procs some);
        }

    pub import_state : (state : S) → 0 < procs → IsReachable object state → Imports (copies object reads shape) (AreCopies object shape procs) procs state
    import_state state some reachable = record {
      whole = copies_of state (some_cells shape procs some) reachable;
      back = first-replicate (cells_of shape procs) state object.start (some_cells shape procs some);
    }

pub kept_alike : {S O R : Type 0} (object other : OneThread S O R) (reads : O → Bool) (shape : Shape) → object ≡ other
    → IsKeptAlike shape shape (copies object reads shape) (copies other reads shape)
    (AreCopies object shape) (AreCopies other shape) (IsReachable object) (IsReachable other)
kept_alike {S} {O} {R} object other reads shape same = record {
  shapes = refl;
  agree = record {
    ways = λ i. copies (same i) reads shape;
    whole = λ procs row whole. subst (λ (o : OneThread S O R). AreCopies o shape procs row) same whole;
    served = λ state reachable. subst (λ (o : OneThread S O R). IsReachable o state) same reachable;
  };
}
