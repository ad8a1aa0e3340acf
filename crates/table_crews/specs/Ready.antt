-- Passes between two phases of a test, and in an activity.
use Rattle.std.specs.Prelude.{◌≡◌, ℕ, ◌+◌, ◌==◌, ◌&&◌, Bool, true, ⊤, List, [], ◌∷◌, Some, is_some, slice_get}
use Rattle.k42_kinds.specs.OneThread.{OneThread}
use Rattle.phase_core.specs.Stages.{is_out}
use Rattle.k42_board.specs.Phases.{is_served}
use Rattle.k42_board.specs.Seen.{SysSeen, PassSeen, IsPassOf, is_at_rest}
use Rattle.k42_board.specs.declared.view.PassView.{PassView}

-- the pass is one of the system, and holds no cell
pub record HoldsNoCell {L P O R : Type 0} (sys : SysSeen L) (pass : PassSeen P O R) : Type 0 where
  pub ours : IsPassOf sys pass
  pub held : pass.view.taker.held ≡ []
  pub notes : pass.view.notes ≡ []

-- so are all of them
abbrev pub HoldNoCells : {L P O R : Type 0} → SysSeen L → List (PassSeen P O R) → Type 0
HoldNoCells sys [] = ⊤
HoldNoCells sys (pass ∷ passes) = HoldsNoCell sys pass × HoldNoCells sys passes

-- it is the pass of this caller, and nothing of it is under way
abbrev pub rests_at : {P O R : Type 0} → ℕ → PassSeen P O R → Bool
rests_at number pass = (pass.view.number == number) && is_at_rest pass.view

-- so are all of them, whose callers are counted up from the first
abbrev pub rest_from : {P O R : Type 0} → ℕ → List (PassSeen P O R) → Bool
rest_from first [] = true
rest_from first (pass ∷ passes) = rests_at first pass && rest_from (first + 1) passes

-- it is in an activity, and inside no call
pub record IsIn {P O R : Type 0} (v : PassView P O R) : Type 0 where
  pub active : is_some v.turn.active ≡ true
  pub out : is_out v.visitor.place ≡ true

-- it is in an activity, and its call is inside a row whose layout it knows
pub record IsServing {P O R : Type 0} (v : PassView P O R) : Type 0 where
  pub active : is_some v.turn.active ≡ true
  pub served : is_served v.visitor.place ≡ true
  pub layout : is_some v.layout ≡ true

-- the layout is one of the object
pub record IsLayoutOf {S L O R : Type 0} (object_of : L → OneThread S O R) (layouts : List L) (object : ℕ) (layout : L) : Type 0 where
  pub declaration : L
  pub declares : slice_get layouts object ≡ Some declaration
  pub same : object_of layout ≡ object_of declaration
