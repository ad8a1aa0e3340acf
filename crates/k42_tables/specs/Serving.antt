-- A pass inside the row that serves it.
use Rattle.std.specs.Prelude.{◌≡◌, ℕ, true, Some}
use Rattle.phase_core.specs.Effects.{root_of}
use Rattle.phase_core.specs.Stages.{IsInside}
use Rattle.k42_joined.specs.Plain.{Joined}
use Rattle.k42_joined.specs.Safe.{IsOpenRow}
use Rattle.k42_joined.specs.State.{object, incarnation}
use Rattle.k42_joined.specs.Swapping.{holds_none}
use Rattle.k42_board.specs.Phases.{is_served}
use Rattle.k42_board.specs.declared.view.PassView.{PassView}

-- The pass is inside the present row of the object, whose layout it has learned, and this is the cell that the root of
-- the layout names for its processor; the cell is of that row, and open.
pub record IsServed {L P O R : Type 0} (o cell : ℕ) (v : PassView P O R) (s : Joined L O R) : Type 0 where
  pub inside : IsInside v.visitor.place o (incarnation s o)
  pub learned : v.layout ≡ Some (object s o).layout
  pub named : cell ≡ root_of (object s o).shapes (object s o).layout v.turn.proc
  pub is_open : IsOpenRow s o (incarnation s o) cell

-- its call is a direct or a tracked one, and it holds no cell
pub record MayFinish {P O R : Type 0} (v : PassView P O R) : Type 0 where
  pub served : is_served v.visitor.place ≡ true
  pub free : holds_none v.taker.held ≡ true
