-- What a layout owes the object of one thread it keeps where it stands among those of all kinds.
use Rattle.std.specs.Prelude.{◌≡◌, ℕ, zero, suc, List, [], ◌∷◌, map, Some, option_map, refl}
use Rattle.std.proofs.Common.{ap, sym, subst, ◌∙◌}
use Rattle.std.proofs.lemmas.List.{length-map}
use Rattle.k42_shapes.specs.declared.shape.Shape.{Shape}
use Rattle.k42_shapes.specs.Shapes.{cells_of, shape_at}
use Rattle.k42_kinds.specs.declared.operation.Op.{Op}
use Rattle.k42_kinds.specs.declared.operation.Reply.{Reply}
use Rattle.k42_kinds.specs.declared.entry.Reach.{Reach}
use Rattle.k42_kinds.specs.declared.entry.Reach.TheVariants.{One, All}
use Rattle.k42_kinds.specs.declared.states.AnyState.{AnyState}
use Rattle.k42_kinds.specs.OneThread.{OneThread}
use Rattle.k42_kinds.specs.Rows.{Ways, changed_at, part_at, made_from, empty_row, row_moved}
use Rattle.k42_kinds.specs.LayoutLaws.{StepsRow, StandsFor, Begins, Imports}
use Rattle.co_any.specs.declared.part.AnyPart.{AnyPart}
use Rattle.co_any.specs.Lifting.{Standing, lifted, LiftedWhole}

-- the object of all kinds does in a state that stands there what the layout's own does
pub record Follows
    {S P : Type 0} (standing : Standing S P) (any : OneThread AnyState Op Reply) (one : OneThread S Op Reply)
    : Type 0 where
  pub start : any.start ≡ standing.state_of one.start
  pub after : (state : S) (op : Op) → any.after (standing.state_of state) op ≡ standing.state_of (one.after state op)
  pub reply : (state : S) (op : Op) → any.reply (standing.state_of state) op ≡ one.reply state op

module _ {S P : Type 0} (standing : Standing S P) (back : (part : P) → standing.own_part (standing.part_of part) ≡ part) where
  map-own : (own : List P) → map standing.own_part (map standing.part_of own) ≡ own
  map-own [] = refl
  map-own (part ∷ own) = λ i. back part i ∷ map-own own i

  changed-own : (change : P → P) (own : List P) (cell : ℕ) → changed_at (λ part. standing.part_of (change (standing.own_part part))) (map standing.part_of own) cell ≡ map standing.part_of (changed_at change own cell)
  changed-own change [] cell = refl
  changed-own change (part ∷ own) zero = ap (λ same. standing.part_of (change same) ∷ map standing.part_of own) (back part)
  changed-own change (part ∷ own) (suc cell) = ap (λ rest. standing.part_of part ∷ rest) (changed-own change own cell)

  replied-own : (reply : P → Reply) (parts : List AnyPart) (cell : ℕ) → option_map (λ part. reply (standing.own_part part)) (part_at parts cell) ≡ option_map reply (part_at (map standing.own_part parts) cell)
  replied-own reply [] cell = refl
  replied-own reply (part ∷ parts) zero = refl
  replied-own reply (part ∷ parts) (suc cell) = replied-own reply parts cell

  made-own : (make : ℕ → P) (first many : ℕ) → made_from (λ cell. standing.part_of (make cell)) first many ≡ map standing.part_of (made_from make first many)
  made-own make first zero = refl
  made-own make first (suc more) = ap (λ rest. standing.part_of (make first) ∷ rest) (made-own make (suc first) more)

  whole_of_own : (Whole : ℕ → List P → Type 0) (procs : ℕ) (own : List P) → Whole procs own → LiftedWhole standing Whole procs (map standing.part_of own)
  whole_of_own Whole procs own whole = record {
    own = ap (map standing.part_of) (sym (map-own own));
    whole = subst (Whole procs) (sym (map-own own)) whole;
  }

  module _ (any : OneThread AnyState Op Reply) (one : OneThread S Op Reply) (follows : Follows standing any one) (ways : Ways S P Op Reply) (Whole : ℕ → List P → Type 0) (procs : ℕ) where
    lifted_step_one : (parts : List AnyPart) (op : Op) (cell : ℕ) → LiftedWhole standing Whole procs parts → StepsRow one ways (Whole procs) (map standing.own_part parts) op (One cell) → StepsRow any (lifted standing ways) (LiftedWhole standing Whole procs) parts op (One cell)
    lifted_step_one parts op cell whole steps =
        let own = map standing.own_part parts in
        let after = changed_at (λ part. ways.part_after part op) own cell in
        let moved : row_moved (lifted standing ways) parts op (One cell) ≡ map standing.part_of after =
        ap (λ row. changed_at (λ part. standing.part_of (ways.part_after (standing.own_part part) op)) row cell) whole.own ∙ changed-own (λ part. ways.part_after part op) own cell in
        record {
          whole = subst (LiftedWhole standing Whole procs) (sym moved) (whole_of_own Whole procs after steps.whole);
          moved =
              ap (λ row. standing.state_of (ways.combine (map standing.own_part row))) moved
              ∙ ap (λ row. standing.state_of (ways.combine row)) (map-own after)
              ∙ ap standing.state_of steps.moved
              ∙ sym (follows.after (ways.combine own) op);
          replied = replied-own (λ part. ways.part_reply part op) parts cell ∙ steps.replied ∙ ap Some (sym (follows.reply (ways.combine own) op));
        }

    lifted_step_all : (parts : List AnyPart) (op : Op) → StepsRow one ways (Whole procs) (map standing.own_part parts) op All → StepsRow any (lifted standing ways) (LiftedWhole standing Whole procs) parts op All
    lifted_step_all parts op steps =
        let own = map standing.own_part parts in
        record {
          whole = whole_of_own Whole procs (ways.row_after own op) steps.whole;
          moved =
              ap (λ row. standing.state_of (ways.combine row)) (map-own (ways.row_after own op))
              ∙ ap standing.state_of steps.moved
              ∙ sym (follows.after (ways.combine own) op);
          replied = steps.replied ∙ ap Some (sym (follows.reply (ways.combine own) op));
        }

    pub lifted_steps : (parts : List AnyPart) (op : Op) (reach : Reach) → LiftedWhole standing Whole procs parts → StepsRow one ways (Whole procs) (map standing.own_part parts) op reach → StepsRow any (lifted standing ways) (LiftedWhole standing Whole procs) parts op reach
    lifted_steps parts op (One cell) whole steps = lifted_step_one parts op cell whole steps
    lifted_steps parts op All whole steps = lifted_step_all parts op steps

    pub lifted_stands : (Serves : S → Type 0) (AnyServes : AnyState → Type 0) (shape : Shape) (parts : List AnyPart) → ((state : S) → Serves state → AnyServes (standing.state_of state)) → StandsFor ways Serves shape procs (map standing.own_part parts) → StandsFor (lifted standing ways) AnyServes shape procs parts
    lifted_stands Serves AnyServes shape parts served stands = record {
      sized = sym (length-map parts standing.own_part) ∙ stands.sized;
      served = served (ways.combine (map standing.own_part parts)) stands.served;
    }

    pub lifted_begins : (tags : List Shape) (tag : ℕ) → Begins one ways (Whole procs) tags tag procs → Begins any (lifted standing ways) (LiftedWhole standing Whole procs) tags tag procs
    lifted_begins tags tag begins =
        let made = made-own (ways.empty procs) 0 (cells_of (shape_at tags tag) procs) in
        record {
          whole = subst (LiftedWhole standing Whole procs) (sym made) (whole_of_own Whole procs (empty_row ways (shape_at tags tag) procs) begins.whole);
          empty = λ live.
              ap (λ row. standing.state_of (ways.combine (map standing.own_part row))) made
              ∙ ap (λ row. standing.state_of (ways.combine row)) (map-own (empty_row ways (shape_at tags tag) procs))
              ∙ ap standing.state_of (begins.empty live)
              ∙ sym follows.start;
        }

    pub lifted_imports : (state : S) → standing.own_state (standing.state_of state) ≡ state → Imports ways (Whole procs) procs state → Imports (lifted standing ways) (LiftedWhole standing Whole procs) procs (standing.state_of state)
    lifted_imports state same imports =
        let made = ap (λ own. map standing.part_of (ways.imported procs own)) same in
        record {
          whole = subst (LiftedWhole standing Whole procs) (sym made) (whole_of_own Whole procs (ways.imported procs state) imports.whole);
          back =
              ap (λ row. standing.state_of (ways.combine (map standing.own_part row))) made
              ∙ ap (λ row. standing.state_of (ways.combine row)) (map-own (ways.imported procs state))
              ∙ ap standing.state_of imports.back;
        }
