-- An operation, made on the parts of the cells that it needs.
use Rattle.std.specs.Prelude.{◌≡◌, ℕ, ◌<◌, ◌≤◌, List, [], ◌∷◌, ◌++◌, length, take, drop, None}
use Rattle.k42_places.specs.Places.{EachPlace}
use Rattle.k42_kinds.specs.LayoutLaws.{IsReached}
use Rattle.k42_kinds.specs.Rows.{Ways}
use Rattle.k42_kinds.specs.declared.entry.Reach.{Reach}
use Rattle.k42_kinds.specs.declared.entry.Reach.TheVariants.{One, All}
use Rattle.k42_board.specs.Calling.{due_in, stepped_at}
use Rattle.k42_board.specs.declared.cell.Content.{Content}
use Rattle.k42_mediator.specs.Parts.{parts_from, filled}

-- All cells of a row are there. So many have its parts, and no other has one.
pub record AreRow {P O R : Type 0} (procs many : ℕ) (contents : List (Content P O R)) : Type 0 where
  pub sized : length contents ≡ procs
  pub few : many ≤ procs
  pub none : EachPlace (λ place content. content.part ≡ None) (drop many contents)

module _ {S P O R : Type 0} (ways : Ways S P O R) (procs : ℕ) where
  -- the parts of a row, of which the first were taken out before
  abbrev pub row_behind : List P → List (Content P O R) → List P
  row_behind parts contents = parts ++ parts_from ways procs (length parts) contents

  -- the parts of the row, and what they become, which are as many
  pub record MayStepRow (Whole : ℕ → List P → Type 0) (parts : List P) (op : O) : Type 0 where
    pub some : 0 < procs
    pub whole : Whole procs parts
    pub same : length (ways.row_after parts op) ≡ length parts

  -- the cells have what the operation needs, in a row of so many parts
  abbrev pub MayStepCells : (ℕ → List P → Type 0) → ℕ → O → Reach → List (Content P O R) → Type 0
  MayStepCells Whole many op (One p) (content ∷ []) = (p < procs) × IsReached ways Whole (due_in ways procs p content) op
  MayStepCells Whole many op (One p) contents = ⊥
  MayStepCells Whole many op All contents =
      AreRow procs many contents × MayStepRow Whole (parts_from ways procs 0 (take many contents)) op

  -- the operation was made on them, with this reply
  abbrev pub HasSteppedCells : ℕ → O → Reach → R → List (Content P O R) → List (Content P O R) → Type 0
  HasSteppedCells many op (One p) reply (old ∷ []) news =
      (reply ≡ ways.part_reply (due_in ways procs p old) op) × (news ≡ stepped_at ways procs p op old ∷ [])
  HasSteppedCells many op (One p) reply olds news = ⊥
  HasSteppedCells many op All reply olds news =
      let parts = parts_from ways procs 0 (take many olds) in
      (reply ≡ ways.row_reply parts op) × (news ≡ filled (ways.row_after parts op) olds)
