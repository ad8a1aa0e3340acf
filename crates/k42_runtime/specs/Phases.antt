-- The phases of a swap, one after the other.
use Rattle.std.specs.Prelude.{◌≡◌, ℕ, ◌+◌, ◌≤◌, ◌==◌, if◌then◌else◌, true, None, Result, Ok, Err}
use Rattle.gen_core.specs.Events.{is_idle}
use Rattle.phase_core.specs.declared.caller.SwapAt.TheVariants.{Moved}
use Rattle.k42_board.specs.Log.{Extends}
use Rattle.k42_board.specs.Seen.{PassSeen}
use Rattle.k42_board.specs.Values.{layout_in}
use Rattle.k42_board.specs.declared.view.PassView.{PassView}
use Rattle.k42_quiesce.specs.declared.steps.Held.{Held}
use Rattle.k42_quiesce.specs.declared.steps.Held.TheVariants as graces
use Rattle.k42_runtime.specs.Swaps.{SwapSeen, IsSameCaller, IsWornOut, graces_due}
use Rattle.k42_runtime.specs.declared.swaps.Cause.{Cause}
use Rattle.k42_runtime.specs.declared.swaps.Cause.TheVariants as causes
use Rattle.k42_runtime.specs.declared.swaps.NoSwap.{NoSwap}
use Rattle.k42_runtime.specs.declared.swaps.NoSwap.TheVariants as reasons
use Rattle.k42_runtime.specs.declared.swaps.Stage.TheVariants as stages
use Rattle.k42_runtime.specs.declared.swaps.Step.{Step}
use Rattle.k42_runtime.specs.declared.swaps.Step.TheVariants as steps
use Rattle.k42_runtime.specs.declared.swaps.Swapped.{Swapped}
use Rattle.k42_runtime.specs.declared.swaps.Swapped.TheVariants as ends

-- it has begun to move its object, in which nobody is any more, and has not handed the row on
pub record IsMoving {P O R : Type 0} (object : ℕ) (v : PassView P O R) : Type 0 where
  pub inactive : v.turn.active ≡ None
  pub grace : is_idle v.turn.grace ≡ true
  pub swap : v.visitor.swap ≡ Moved object
  pub unhanded : v.handed ≡ None

-- how a swap ends that found its object over, which has so many live layouts
abbrev pub end_in : ℕ → ℕ → Swapped
end_in live word = if layout_in word == live then ends.Gone else ends.Spent

-- what holds a swap up whose grace is held up so
abbrev pub cause_in : Held → Cause
cause_in (graces.Left proc left) = causes.Left proc left
cause_in (graces.RoleHeld holder) = causes.RoleHeld holder

-- the step that brings a swap to this end
abbrev pub last_step : Result Swapped NoSwap → Step
last_step (Ok end) = steps.Ended end
last_step (Err reasons.Memory) = steps.Memory
last_step (Err reasons.Worn) = steps.Worn

-- By steps that draw nothing the swap and its pass have become these, which are the same if it has not begun; one of a pass
-- that is worn out has not.
pub record HasGoneOn {P O R : Type 0} (s t : SwapSeen) (old new : PassSeen P O R) : Type 0 where
  pub object : t.object ≡ s.object
  pub to : t.to ≡ s.to
  pub seat : new.seat ≡ old.seat
  pub keep : new.keep ≡ old.keep
  pub caller : IsSameCaller old.view new.view
  pub drawn : new.view.taker.mine ≡ old.view.taker.mine
  pub log : Extends old.view.log new.view.log
  pub graces :
      new.view.graces + graces_due t.stage t.holder ≤ old.view.graces + graces_due s.stage s.holder
  pub waits : t.stage ≡ stages.New → (s.stage ≡ stages.New) × (new ≡ old)
  pub worn : s.stage ≡ stages.New → IsWornOut old.view → t.stage ≡ stages.New
