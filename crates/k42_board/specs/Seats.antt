-- What the seat of a cell tells.
use Rattle.std.specs.Prelude.{◌≡◌, ℕ, ◌≤◌, Bool, false, List, [], ◌∷◌}
use Rattle.k42_limits.specs.declared.TheConstants.{LAST_STAMP}
use Rattle.turn_core.specs.Stamps.{last_stamp}
use Rattle.k42_board.specs.declared.view.CellView.{CellView}
use Rattle.k42_board.specs.declared.view.View.{View}
use Rattle.k42_board.specs.declared.view.View.TheVariants.{Kept}

-- of a cell at which nothing was drawn yet there is none
abbrev pub told_by : {P O R : Type 0} → List (View P O R) → CellView O R
told_by (Kept told ∷ []) = told
told_by _ = record { history = []; closed = false }

-- what a cell says of itself is what its seat tells
pub record IsTold {P O R : Type 0} (is_closed : Bool) (last_drawn : ℕ) (views : List (View P O R)) : Type 0 where
  pub closed : is_closed ≡ (told_by views).closed
  pub last : last_drawn ≡ last_stamp (told_by views).history
  pub small : last_drawn ≤ LAST_STAMP
