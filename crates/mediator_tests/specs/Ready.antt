-- Passes between two phases of a test.
use Rattle.std.specs.Prelude.{◌≡◌, ℕ, true, [], ◌∷◌, is_some}
use Rattle.k42_board.specs.Phases.{is_served}
use Rattle.k42_board.specs.Seen.{SysSeen, PassSeen, IsPassOf}
use Rattle.table_crews.specs.Ready.{HoldsNoCell}

-- the pass holds no cell, and is in an activity
pub record IsBusy {L P O R : Type 0} (sys : SysSeen L) (pass : PassSeen P O R) : Type 0 where
  pub free : HoldsNoCell sys pass
  pub active : is_some pass.view.turn.active ≡ true

-- it is in an activity, its call is inside a row, and it holds the lock of this cell
pub record IsHolding {L P O R : Type 0} (cell : ℕ) (sys : SysSeen L) (pass : PassSeen P O R) : Type 0 where
  pub ours : IsPassOf sys pass
  pub held : pass.view.taker.held ≡ cell ∷ []
  pub notes : pass.view.notes ≡ []
  pub active : is_some pass.view.turn.active ≡ true
  pub served : is_served pass.view.visitor.place ≡ true
