-- A pass between two of its steps.
use Rattle.std.specs.Prelude.{◌≡◌, [], None}
use Rattle.k42_board.specs.declared.view.PassView.{PassView}

-- no slot is out with it, and each cell was told of the entry that was drawn at it
pub record IsSettled {P O R : Type 0} (v : PassView P O R) : Type 0 where
  pub back : v.out ≡ None
  pub told : v.untold ≡ []
