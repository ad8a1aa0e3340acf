-- Groups of processors keep the laws of ways, by those of the layout with a cell for each.
use Rattle.std.specs.Prelude.{◌≡◌, ℕ, zero, suc, ◌+◌, ◌<◌, List, ◌∷◌, refl}
use Rattle.std.proofs.Common.{ap, sym, subst, ◌∙◌, arith}
use Rattle.std.proofs.Math.Nat.{mod-eq_of_lt}
use Rattle.k42_shapes.specs.declared.shape.Shape.{Shape}
use Rattle.k42_shapes.specs.declared.shape.Shape.TheVariants.{Each}
use Rattle.k42_shapes.specs.Shapes.{cells_of, cell_called, shape_at, IsLiveTag}
use Rattle.k42_shapes.proofs.ShapeLaws.{cell_within, some_cells}
use Rattle.k42_kinds.specs.declared.entry.Reach.{Reach}
use Rattle.k42_kinds.specs.declared.entry.Reach.TheVariants.{One, All}
use Rattle.k42_kinds.specs.OneThread.{OneThread}
use Rattle.k42_kinds.specs.Rows.{Ways, IsWithin, made_from, empty_row}
use Rattle.k42_kinds.specs.LayoutLaws.{StepsRow, StandsFor, Begins, Imports, Agree}
use Rattle.k42_choice.specs.Living.{IsKeptAlike, IsRowOfNew}
use Rattle.co_groups.specs.Grouped.{living, grouped, IsGrouped}

-- functions that make the same at each number make one row
made_alike : {P : Type 0} (make other : ℕ → P) (first many : ℕ) → ((cell : ℕ) → cell < first + many → make cell ≡ other cell)
    → made_from make first many ≡ made_from other first many
made_alike make other first zero same = refl
made_alike make other first (suc more) same = λ i. same first (omega arith) i ∷ made_alike make other (suc first) more (λ cell there. same cell (omega (arith, there))) i

module _ {S P O R : Type 0} (ways : Ways S P O R) (shape : Shape) (procs : ℕ) where
  empty-grouped : {own : Shape} → own ≡ Each → empty_row ways own (cells_of shape procs) ≡ empty_row (grouped shape ways) shape procs
  empty-grouped each =
      ap (λ own. empty_row ways own (cells_of shape procs)) each
      ∙ made_alike (ways.empty (cells_of shape procs)) ((grouped shape ways).empty procs) 0 (cells_of shape procs)
      (λ cell there. ap (ways.empty (cells_of shape procs)) (sym (mod-eq_of_lt (omega (arith, there)))))

  pub grouped_reaches : (proc : ℕ) (op : O) {own : Shape} → own ≡ Each → proc < procs
      → (cell_called shape proc < cells_of shape procs → IsWithin (cells_of own (cells_of shape procs)) ((grouped shape ways).reach procs op proc))
      → IsWithin (cells_of shape procs) ((grouped shape ways).reach procs op proc)
  grouped_reaches proc op each there reaches =
      subst (λ own. IsWithin (cells_of own (cells_of shape procs)) ((grouped shape ways).reach procs op proc)) each (reaches (cell_within shape proc procs there))

  pub grouped_stands : (Serves : S → Type 0) (parts : List P) {own : Shape} → own ≡ Each → 0 < procs
      → (0 < cells_of shape procs → StandsFor ways Serves own (cells_of shape procs) parts)
      → StandsFor (grouped shape ways) Serves shape procs parts
  grouped_stands Serves parts each some stands =
      let stood = stands (some_cells shape procs some) in
      record { sized = stood.sized ∙ ap (λ own. cells_of own (cells_of shape procs)) each; served = stood.served }

  module _ (Whole : ℕ → List P → Type 0) where
    pub grouped_imports : (state : S) → 0 < procs
        → (0 < cells_of shape procs → Imports ways (Whole (cells_of shape procs)) (cells_of shape procs) state)
        → Imports (grouped shape ways) (IsGrouped shape Whole procs) procs state
    grouped_imports state some imports =
        let imported = imports (some_cells shape procs some) in
        record { whole = imported.whole; back = imported.back }

    module _ (object : OneThread S O R) where
      so_grouped : (parts : List P) (op : O) (reach : Reach) → StepsRow object ways (Whole (cells_of shape procs)) parts op reach
          → StepsRow (living object) (grouped shape ways) (IsGrouped shape Whole procs) parts op reach
      so_grouped parts op (One cell) steps = record { whole = steps.whole; moved = steps.moved; replied = steps.replied }
      so_grouped parts op All steps = record { whole = steps.whole; moved = steps.moved; replied = steps.replied }

      pub grouped_steps : (proc : ℕ) (parts : List P) (op : O) → proc < procs
          → (cell_called shape proc < cells_of shape procs → StepsRow object ways (Whole (cells_of shape procs)) parts op ((grouped shape ways).reach procs op proc))
          → StepsRow (living object) (grouped shape ways) (IsGrouped shape Whole procs) parts op ((grouped shape ways).reach procs op proc)
      grouped_steps proc parts op there steps = so_grouped parts op ((grouped shape ways).reach procs op proc) (steps (cell_within shape proc procs there))

      pub grouped_steps_all : (parts : List P) (op : O) → 0 < procs
          → (0 < cells_of shape procs → StepsRow object ways (Whole (cells_of shape procs)) parts op All)
          → StepsRow (living object) (grouped shape ways) (IsGrouped shape Whole procs) parts op All
      grouped_steps_all parts op some steps = so_grouped parts op All (steps (some_cells shape procs some))

      pub grouped_begins : (shapes : List Shape) (tag : ℕ) → shape_at shapes tag ≡ Each → IsLiveTag shapes tag → 0 < procs
          → (0 < cells_of shape procs → Begins object ways (Whole (cells_of shape procs)) shapes tag (cells_of shape procs))
          → IsRowOfNew (living object) (grouped shape ways) (IsGrouped shape Whole procs) shape procs
      grouped_begins shapes tag each live some begins =
          let begun = begins (some_cells shape procs some) in
          record {
            whole = subst (Whole (cells_of shape procs)) (empty-grouped each) begun.whole;
            empty = ap ways.combine (sym (empty-grouped each)) ∙ begun.empty live;
          }

-- two layouts that keep an object in one way do so in groups
pub grouped_alike : {S P O R : Type 0} (shape : Shape) (these those : Ways S P O R) (Whole Other : ℕ → List P → Type 0) (Serves OtherServes : S → Type 0)
    → Agree these those Whole Other Serves OtherServes
    → IsKeptAlike shape shape (grouped shape these) (grouped shape those) (IsGrouped shape Whole) (IsGrouped shape Other) Serves OtherServes
grouped_alike shape these those Whole Other Serves OtherServes agree = record {
  shapes = refl;
  agree = record {
    ways = ap (grouped shape) agree.ways;
    whole = λ procs parts whole. agree.whole (cells_of shape procs) parts whole;
    served = agree.served;
  };
}
