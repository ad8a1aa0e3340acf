-- What the rule tells of every state that the table shows.
use Rattle.std.specs.Prelude.{◌≡◌, ℕ, ◌≤◌, List, [], ◌∷◌, Some, slice_get, slice_index, unwrap_or}
use mathlib.Core.Option.{some}
use lib.ListN.{get_elem?}
use Rattle.atomic_table.specs.Table.{State, keeps, stepped}
use Rattle.k42_stamp.specs.Layouts.{Layouts}
use Rattle.k42_joined.specs.Plain.{Joined}
use Rattle.k42_joined.specs.State.{object, incarnation}
use Rattle.phase_core.specs.Stages.{object_of, row_of}
use Rattle.k42_board.specs.Cells.{Slot}
use Rattle.k42_board.specs.Rule.{Rule}
use Rattle.k42_board.specs.declared.view.PassView.{PassView}
use Rattle.k42_board.specs.declared.view.Row.{Row}
use Rattle.k42_board.specs.declared.view.View.{View}
use Rattle.k42_board.specs.declared.view.View.TheVariants.{Crew, Named}

-- the row that a served pass is inside is the present one of its object, whose layout it has learned
pub record IsPresent {L P O R : Type 0} (v : PassView P O R) (s : Joined L O R) : Type 0 where
  pub incarnation_is : row_of v.visitor.place ≡ incarnation s (object_of v.visitor.place)
  pub layout_is : unwrap_or v.layout 0 ≡ (object s (object_of v.visitor.place)).layout

-- the seat names the row: it is that of a `Retired`, or of a pass that holds the row
abbrev pub Names : {P O R : Type 0} → View P O R → Row → Type 0
Names {O} {R} (Crew passes) row =
    (i j : ℕ) × (v : PassView _ O R) × (slice_get passes i ≡ Some v) × (slice_get v.rows j ≡ Some row)
Names (Named named) row = named ≡ row
Names view row = ⊥

-- no fewer rows are freed
abbrev pub KeepsFreed : {L O R : Type 0} → Joined L O R → Joined L O R → Type 0
KeepsFreed s t = (o : ℕ) → (object s o).freed ≤ (object t o).freed

module _ {S L P O R : Type 0} (F : Layouts S L P O R) (declared : List L) where
  -- whatever state the table shows as the pass finds the word
  abbrev pub StepKeepsFreed : ℕ → (ℕ → ℕ) → ℕ → PassView P O R → ℕ → PassView P O R → Type 0
  StepKeepsFreed word changed id v found w =
      (table : State (Slot P O R) (View P O R)) (r : Rule F declared table)
      → get_elem? table.views id ≡ some (Crew (v ∷ [])) → slice_index table.words word ≡ found
      → (after : Rule F declared (stepped table word (changed found) id [] (Crew (w ∷ [])) keeps))
      × KeepsFreed r.state after.state
