-- A swap between two of its steps, and a pass that adds.
use Rattle.std.specs.Prelude.{◌≡◌, ◌+◌, false, length}
use Rattle.k42_kinds.specs.declared.operation.Op.TheVariants.{Add}
use Rattle.k42_runtime.specs.Swaps.{SwapSeen, IsAtStage, is_over}
use Rattle.co_system.specs.Systems.{IsAsked, MayLead, SystemSeen, SystemPass}
use Rattle.k42_runtime.specs.Systems.{IsPassHere}

-- the swap leads where it may, and the pass is one of the system, and as the last step of the swap left it, which was not its
-- last
pub record IsSwapping (system : SystemSeen) (swap : SwapSeen) (pass : SystemPass) : Type 0 where
  pub here : IsPassHere system pass
  pub leads : MayLead system.plan swap.object swap.to
  pub stage : IsAtStage swap.stage system.sys.shapes swap pass
  pub going : is_over swap.stage ≡ false

-- if one can be added to the first object, the pass has one entry more
abbrev pub HasAdded : SystemSeen → SystemPass → SystemPass → Type 0
HasAdded system old new =
    IsAsked system.plan 0 (Add 1) → length new.view.taker.mine ≡ length old.view.taker.mine + 1
