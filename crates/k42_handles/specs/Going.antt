-- What a pass has under way that is stepped.
use Rattle.std.specs.Prelude.{◌≡◌, ℕ, ⊤, false, true, length, Option, Some, None}
use Rattle.k42_board.specs.declared.view.PassView.{PassView}
use Rattle.phase_core.specs.Stages.{is_idle}
use Rattle.k42_quiesce.specs.Gracing.{MayStep}
use Rattle.k42_watch.specs.WatchedRows.{LeadsWatched}
use Rattle.co_any.specs.Layouts.{LeadsAny}
use Rattle.k42_runtime.specs.Swaps.{SwapSeen, IsAtStage, is_over}
use Rattle.co_system.specs.Systems.{SystemSeen, SystemPart, SystemPass}
use Rattle.k42_runtime.specs.Systems.{IsPassHere}
use Rattle.k42_kinds.specs.declared.entry.To.{To}
use Rattle.k42_kinds.specs.declared.operation.Op.{Op}
use Rattle.k42_kinds.specs.declared.operation.Reply.{Reply}

-- a swap of any object may lead there
abbrev pub Leads : To → Type 0
Leads = LeadsWatched LeadsAny

-- the swap is not over, leads where it may, and the pass is as its last step left it
pub record IsSwapping (system : SystemSeen) (swap : SwapSeen) (pass : SystemPass) : Type 0 where
  pub here : IsPassHere system pass
  pub stage : IsAtStage swap.stage system.sys.shapes swap pass
  pub going : is_over swap.stage ≡ false
  pub leads : Leads swap.to

-- a grace that has the role was granted all rows that the pass has
abbrev pub IsForAll : Option ℕ → PassView SystemPart Op Reply → Type 0
IsForAll None v = ⊤
IsForAll (Some holder) v = v.granted ≡ length v.rows

-- a grace of the pass may be stepped, which is to free all its rows
pub record IsReclaiming (system : SystemSeen) (grace : Option ℕ) (pass : SystemPass) : Type 0 where
  pub here : IsPassHere system pass
  pub may : MayStep grace pass.view
  pub inactive : pass.view.turn.active ≡ None
  pub swap : is_idle pass.view.visitor.swap ≡ true
  pub all : IsForAll grace pass.view
