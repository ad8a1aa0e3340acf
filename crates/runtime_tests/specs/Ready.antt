-- A swap between two of its steps.
use Rattle.k42_runtime.specs.Swaps.{SwapSeen, IsAtStage}
use Rattle.co_system.specs.Systems.{MayLead, SystemSeen, SystemPass}
use Rattle.k42_runtime.specs.Systems.{IsPassHere}

-- the swap leads where it may, and the pass is one of the system, and as the last step of the swap left it
pub record IsSwapping (system : SystemSeen) (swap : SwapSeen) (pass : SystemPass) : Type 0 where
  pub here : IsPassHere system pass
  pub leads : MayLead system.plan swap.object swap.to
  pub stage : IsAtStage swap.stage system.sys.shapes swap pass
