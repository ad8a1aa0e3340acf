-- Calls and swaps between two of their steps.
use Rattle.std.specs.Prelude.{◌≡◌, ℕ, true, List, [], is_some}
use Rattle.gen_core.specs.Events as graces
use Rattle.phase_core.specs.Stages as swaps
use Rattle.k42_kinds.specs.declared.operation.Op.{Op}
use Rattle.k42_board.specs.Phases.{is_served}
use Rattle.k42_board.specs.Seen.{IsPassOf}
use Rattle.k42_runtime.specs.Calls.{CallSeen}
use Rattle.k42_runtime.specs.Swaps.{SwapSeen, IsAtStage}
use Rattle.co_system.specs.Systems.{IsAsked, MayLead, SystemSeen, SystemPass}
use Rattle.k42_runtime.specs.Systems.{IsPassHere}

-- the call asks an object of the system for what it takes
abbrev pub IsCallOf : SystemSeen → CallSeen Op → Type 0
IsCallOf system call = IsAsked system.plan call.object call.op

-- the swap leads where it may, and the pass is one of the system, and as the last step of the swap left it
pub record IsSwapping (system : SystemSeen) (swap : SwapSeen) (pass : SystemPass) : Type 0 where
  pub here : IsPassHere system pass
  pub leads : MayLead system.plan swap.object swap.to
  pub stage : IsAtStage swap.stage system.sys.shapes swap pass

-- it is in an activity, and its call is inside a row; these are the cells that it holds, with their content in place
pub record IsInRow (system : SystemSeen) (cells : List ℕ) (pass : SystemPass) : Type 0 where
  pub ours : IsPassOf system.sys pass
  pub active : is_some pass.view.turn.active ≡ true
  pub grace : graces.is_idle pass.view.turn.grace ≡ true
  pub swap : swaps.is_idle pass.view.visitor.swap ≡ true
  pub served : is_served pass.view.visitor.place ≡ true
  pub held : pass.view.taker.held ≡ cells
  pub notes : pass.view.notes ≡ []
