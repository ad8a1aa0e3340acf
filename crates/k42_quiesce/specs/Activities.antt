-- The activity that a pass has begun.
use Rattle.std.specs.Prelude.{◌≡◌, ℕ, ◌≤◌, true, Some}
use Rattle.k42_places.specs.Places.{EachPlace}
use Rattle.phase_core.specs.Stages.{is_out}
use Rattle.k42_board.specs.declared.view.PassView.{PassView}

-- the pass has an activity, whose generation is not below that of any of its entries, and is inside no call
pub record HasEntered {P O R : Type 0} (v : PassView P O R) : Type 0 where
  pub generation : ℕ
  pub active : v.turn.active ≡ Some generation
  pub out : is_out v.visitor.place ≡ true
  pub later : EachPlace (λ place entry. (drawn : ℕ) → entry.generation ≡ Some drawn → drawn ≤ generation) v.taker.mine
