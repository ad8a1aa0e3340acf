-- A swap that is polled: where it goes on, what holds it up, and how it ends.
use Rattle.std.specs.Prelude.{◌≡◌, ◌↔◌, ℕ, ◌+◌, ◌≤◌, false, Option, None, Result, Err, IfOk, IsSomeAnd}
use Rattle.k42_board.specs.Views.{word_begun}
use Rattle.k42_runtime.specs.Swaps.{SwapSeen, IsAtStage, IsEndBy, IsSameCaller, IsWornOut, HasSwapped, HasStepped, StepsWithoutMemory, graces_due, is_over}
use Rattle.co_system.specs.Systems.{SystemSeen, SystemPass, MayLead}
use Rattle.k42_runtime.specs.Systems.{IsPassHere, IsAtRest, live_in}
use Rattle.k42_runtime.specs.declared.swaps.Cause.{Cause}
use Rattle.k42_runtime.specs.declared.swaps.NoSwap.{NoSwap}
use Rattle.k42_runtime.specs.declared.swaps.NoSwap.TheVariants as reasons
use Rattle.k42_runtime.specs.declared.swaps.Stage.TheVariants.{New}
use Rattle.k42_runtime.specs.declared.swaps.Step.TheVariants.{Again}
use Rattle.k42_runtime.specs.declared.swaps.Swapped.{Swapped}
use Rattle.k42_kinds.specs.declared.entry.To.{To}

abbrev pub new_swap : ℕ → To → SwapSeen
new_swap object to = record { object = object; to = to; stage = New; holder = None }

-- the swap is not over, leads where one of its object may, and the pass is as it left it
pub record IsGoing (system : SystemSeen) (swap : SwapSeen) (pass : SystemPass) : Type 0 where
  pub here : IsPassHere system pass
  pub stage : IsAtStage swap.stage system.sys.shapes swap pass
  pub going : is_over swap.stage ≡ false
  pub leads : MayLead system.plan swap.object swap.to

-- Steps of the swap, the last with this answer, have brought the pass from there to here, where it rests: it has one entry
-- more, that of the swap. Without memory nothing was begun, or its entry tells that the swap was given up. A new swap of a pass
-- that is worn out was not begun.
pub record Ends (system : SystemSeen) (swap : SwapSeen) (old : SystemPass) (result : Result Swapped NoSwap) (new : SystemPass)
    : Type 0 where
  pub here : IsPassHere system new
  pub rests : IsAtRest new.view
  pub seat : new.seat ≡ old.seat
  pub keep : new.keep ≡ old.keep
  pub caller : IsSameCaller old.view new.view
  pub graces : new.view.graces ≤ old.view.graces + graces_due swap.stage swap.holder
  pub told : IfOk result (IsEndBy (live_in system.sys.shapes swap.object) (word_begun new.view.last))
  pub ended : IfOk result (λ end. HasSwapped swap.object swap.to end old.view new.view)
  pub memory : result ≡ Err reasons.Memory → StepsWithoutMemory (live_in system.sys.shapes swap.object) swap.stage swap.object swap.to old.view new.view
  pub worn : (result ≡ Err reasons.Worn) ↔ ((swap.stage ≡ New) × IsWornOut old.view)
  pub kept : result ≡ Err reasons.Worn → new ≡ old

-- one step has brought swap and pass from there to here, and is held up by the cause that is kept
abbrev pub WasHeldUp : SystemSeen → Option SystemPass → SwapSeen → Option SystemPass → SwapSeen → Option Cause → Type 0
WasHeldUp system old s new t cause =
    IsSomeAnd old (λ old. IsSomeAnd new (λ new. IsSomeAnd cause (λ cause. HasStepped system (Again cause) s t old new)))
