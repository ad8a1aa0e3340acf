-- What a layout owes the object of one thread it keeps where its parts stand among others.
use Rattle.std.specs.Prelude.{◌≡◌, ℕ, zero, suc, List, [], ◌∷◌, map, length, Option, Some, None, option_map, refl}
use Rattle.std.proofs.Common.{ap, sym, subst, ◌∙◌}
use Rattle.std.proofs.lemmas.List.{length-map}
use Rattle.std.proofs.lemmas.Option.{same_Some}
use Rattle.k42_shapes.specs.declared.shape.Shape.{Shape}
use Rattle.k42_shapes.specs.Shapes.{cells_of}
use Rattle.k42_kinds.specs.declared.entry.Reach.{Reach}
use Rattle.k42_kinds.specs.declared.entry.Reach.TheVariants.{One, All}
use Rattle.k42_kinds.specs.OneThread.{OneThread}
use Rattle.k42_kinds.specs.Rows.{Ways, changed_at, part_at, made_from, empty_row, row_moved}
use Rattle.k42_kinds.specs.LayoutLaws.{StepsRow, StandsFor, Imports, IsReached, Agree}
use Rattle.k42_choice.specs.Living.{IsRowOfNew}
use Rattle.k42_choice.specs.Lifting.{Side, States, and_own, own_parts, standing_or, reply_or, made_of, lifted, IsOwnRow}

-- the object does in a state that stands there what the layout's own does
pub record Follows {S T O R : Type 0} (state_of : S → T) (object : OneThread T O R) (own : OneThread S O R) : Type 0 where
  pub start : object.start ≡ state_of own.start
  pub after : (state : S) (op : O) → object.after (state_of state) op ≡ state_of (own.after state op)
  pub reply : (state : S) (op : O) → object.reply (state_of state) op ≡ own.reply state op

module _ {P Q : Type 0} (side : Side P Q) (back : (part : P) → side.own_part (side.part_of part) ≡ Some part) where
  pub own-map : (own : List P) → own_parts side (map side.part_of own) ≡ own
  own-map [] = refl
  own-map (part ∷ own) = λ i. and_own (back part i) (own-map own i)

  -- a part that stands in a row of the layout's own is its own
  pub own-at : (own : List P) (cell : ℕ) (part : P) → part_at (map side.part_of own) cell ≡ Some (side.part_of part) → part_at own cell ≡ Some part
  own-at [] cell part there = absurd cc
  own-at (first ∷ own) zero part there = sym (back first) ∙ (ap side.own_part (same_Some _ _ there) ∙ back part)
  own-at (first ∷ own) (suc cell) part there = own-at own cell part there

  pub none-at : (own : List P) (cell : ℕ) (part : Q) → part_at (map side.part_of own) cell ≡ Some part → side.own_part part ≡ None → ⊥
  none-at [] cell part there none = cc there
  none-at (first ∷ own) zero part there none = cc (sym (back first) ∙ (ap side.own_part (same_Some _ _ there) ∙ none))
  none-at (first ∷ own) (suc cell) part there none = none-at own cell part there none

  changed-own : (change : P → P) (own : List P) (cell : ℕ)
      → changed_at (λ part. standing_or side part (option_map change (side.own_part part))) (map side.part_of own) cell ≡ map side.part_of (changed_at change own cell)
  changed-own change [] cell = refl
  changed-own change (part ∷ own) zero = ap (λ (same : Option P). standing_or side (side.part_of part) (option_map change same) ∷ map side.part_of own) (back part)
  changed-own change (part ∷ own) (suc cell) = ap (λ (rest : List Q). side.part_of part ∷ rest) (changed-own change own cell)

  made-own : (make : ℕ → P) (first many : ℕ) → made_from (λ cell. side.part_of (make cell)) first many ≡ map side.part_of (made_from make first many)
  made-own make first zero = refl
  made-own make first (suc more) = ap (λ (rest : List Q). side.part_of (make first) ∷ rest) (made-own make (suc first) more)

  pub row_of_own : (Whole : ℕ → List P → Type 0) (procs : ℕ) (own : List P) → Whole procs own → IsOwnRow side Whole procs (map side.part_of own)
  row_of_own Whole procs own whole = record {
    own = ap (map side.part_of) (sym (own-map own));
    whole = subst (Whole procs) (sym (own-map own)) whole;
  }

  module _ {S T O R : Type 0} (states : States S T) (gone : R) (ways : Ways S P O R) (Whole : ℕ → List P → Type 0) where
    replied-own : (op : O) (own : List P) (cell : ℕ)
        → option_map (λ part. (lifted side states gone ways).part_reply part op) (part_at (map side.part_of own) cell) ≡ option_map (λ part. ways.part_reply part op) (part_at own cell)
    replied-own op [] cell = refl
    replied-own op (part ∷ own) zero = ap (λ (same : Option P). Some (reply_or gone (option_map (λ own. ways.part_reply own op) same))) (back part)
    replied-own op (part ∷ own) (suc cell) = replied-own op own cell

    -- the layout's own part is reached in its own row
    pub own_reached : (part : P) (op : O) → IsReached (lifted side states gone ways) (IsOwnRow side Whole) (side.part_of part) op → IsReached ways Whole part op
    own_reached part op reached = record {
      procs = reached.procs;
      proc = reached.proc;
      parts = own_parts side reached.parts;
      cell = reached.cell;
      known = reached.known;
      whole = reached.whole.whole;
      needed = reached.needed;
      there = own-at (own_parts side reached.parts) reached.cell part (sym (ap (λ row. part_at row reached.cell) reached.whole.own) ∙ reached.there);
    }

    pub none_reached : (part : Q) (op : O) → side.own_part part ≡ None → IsReached (lifted side states gone ways) (IsOwnRow side Whole) part op → ⊥
    none_reached part op none reached =
        none-at (own_parts side reached.parts) reached.cell part (sym (ap (λ row. part_at row reached.cell) reached.whole.own) ∙ reached.there) none

    pub lifted_stands : (Serves : S → Type 0) (Served : T → Type 0) (shape : Shape) (procs : ℕ) (row : List Q) → ((state : S) → Serves state → Served (states.state_of state))
        → IsOwnRow side Whole procs row → StandsFor ways Serves shape procs (own_parts side row) → StandsFor (lifted side states gone ways) Served shape procs row
    lifted_stands Serves Served shape procs row served whole stands = record {
      sized = ap length whole.own ∙ (length-map (own_parts side row) side.part_of ∙ stands.sized);
      served = served (ways.combine (own_parts side row)) stands.served;
    }

    pub lifted_imports : (procs : ℕ) (state : S) → states.own_state (states.state_of state) ≡ Some state → Imports ways (Whole procs) procs state
        → Imports (lifted side states gone ways) (IsOwnRow side Whole procs) procs (states.state_of state)
    lifted_imports procs state same imports =
        let made = ap (made_of side ways procs) same in
        record {
          whole = subst (IsOwnRow side Whole procs) (sym made) (row_of_own Whole procs (ways.imported procs state) imports.whole);
          back =
              ap (λ row. states.state_of (ways.combine (own_parts side row))) made
              ∙ (ap (λ row. states.state_of (ways.combine row)) (own-map (ways.imported procs state))
              ∙ ap states.state_of imports.back);
        }

    module _ (object : OneThread T O R) (one : OneThread S O R) (follows : Follows states.state_of object one) where
      step_one : (procs : ℕ) (row : List Q) (op : O) (cell : ℕ) → IsOwnRow side Whole procs row → StepsRow one ways (Whole procs) (own_parts side row) op (One cell)
          → StepsRow object (lifted side states gone ways) (IsOwnRow side Whole procs) row op (One cell)
      step_one procs row op cell whole steps =
          let own = own_parts side row in
          let after = changed_at (λ part. ways.part_after part op) own cell in
          let moved : row_moved (lifted side states gone ways) row op (One cell) ≡ map side.part_of after =
          ap (λ row. changed_at (λ part. standing_or side part (option_map (λ own. ways.part_after own op) (side.own_part part))) row cell) whole.own ∙ changed-own
          (λ part. ways.part_after part op) own cell in
          record {
            whole = subst (IsOwnRow side Whole procs) (sym moved) (row_of_own Whole procs after steps.whole);
            moved =
                ap (λ row. states.state_of (ways.combine (own_parts side row))) moved
                ∙ (ap (λ row. states.state_of (ways.combine row)) (own-map after)
                ∙ (ap states.state_of steps.moved
                ∙ sym (follows.after (ways.combine own) op)));
            replied =
                ap (λ row. option_map (λ part. (lifted side states gone ways).part_reply part op) (part_at row cell)) whole.own
                ∙ (replied-own op own cell
                ∙ (steps.replied ∙ ap Some (sym (follows.reply (ways.combine own) op))));
          }

      step_all : (procs : ℕ) (row : List Q) (op : O) → StepsRow one ways (Whole procs) (own_parts side row) op All
          → StepsRow object (lifted side states gone ways) (IsOwnRow side Whole procs) row op All
      step_all procs row op steps =
          let own = own_parts side row in
          record {
            whole = row_of_own Whole procs (ways.row_after own op) steps.whole;
            moved =
                ap (λ row. states.state_of (ways.combine row)) (own-map (ways.row_after own op))
                ∙ (ap states.state_of steps.moved
                ∙ sym (follows.after (ways.combine own) op));
            replied = steps.replied ∙ ap Some (sym (follows.reply (ways.combine own) op));
          }

      pub lifted_steps : (procs : ℕ) (row : List Q) (op : O) (reach : Reach) → IsOwnRow side Whole procs row → StepsRow one ways (Whole procs) (own_parts side row) op reach
          → StepsRow object (lifted side states gone ways) (IsOwnRow side Whole procs) row op reach
      lifted_steps procs row op (One cell) whole steps = step_one procs row op cell whole steps
      lifted_steps procs row op All whole steps = step_all procs row op steps

      pub lifted_begins : (shape : Shape) (procs : ℕ) → IsRowOfNew one ways (Whole procs) shape procs
          → IsRowOfNew object (lifted side states gone ways) (IsOwnRow side Whole procs) shape procs
      lifted_begins shape procs begins =
          let made = made-own (ways.empty procs) 0 (cells_of shape procs) in
          record {
            whole = subst (IsOwnRow side Whole procs) (sym made) (row_of_own Whole procs (empty_row ways shape procs) begins.whole);
            empty =
                ap (λ row. states.state_of (ways.combine (own_parts side row))) made
                ∙ (ap (λ row. states.state_of (ways.combine row)) (own-map (empty_row ways shape procs))
                ∙ (ap states.state_of begins.empty
                ∙ sym follows.start));
          }

-- two layouts that keep an object in one way do so there
pub lifted_agree : {S P T Q O R : Type 0} (side : Side P Q) (states : States S T) (gone : R) (these those : Ways S P O R) (Whole Other : ℕ → List P → Type 0) (Served OtherServed : T → Type 0)
    → these ≡ those → ((procs : ℕ) (parts : List P) → Whole procs parts → Other procs parts) → ((state : T) → Served state → OtherServed state)
    → Agree (lifted side states gone these) (lifted side states gone those) (IsOwnRow side Whole) (IsOwnRow side Other) Served OtherServed
lifted_agree side states gone these those Whole Other Served OtherServed same whole served = record {
  ways = ap (lifted side states gone) same;
  whole = λ procs row own. record { own = own.own; whole = whole procs (own_parts side row) own.whole };
  served = served;
}
