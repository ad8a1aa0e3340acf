-- What becomes of a seat by the steps of a swap.
use Rattle.std.specs.Prelude.{◌≡◌, ◌<◌, ◌≤◌, ℕ, length, Option, Some, None, Result, Ok, Err}
use Rattle.std.specs.Arc.{arc_value}
use Rattle.k42_kinds.specs.declared.entry.To.{To}
use Rattle.k42_runtime.specs.Swaps.{SwapSeen, HasStepped}
use Rattle.co_system.specs.Systems.{SystemPass}
use Rattle.k42_runtime.specs.declared.swaps.Stage.TheVariants.{New}
use Rattle.k42_runtime.specs.declared.swaps.Step.{Step}
use Rattle.k42_runtime.specs.declared.swaps.Step.TheVariants as steps
use Rattle.k42_handles.specs.Seats.{refusal_of, IsKept}
use Rattle.k42_handles.specs.declared.refusal.Refusal.{Refusal}
use Rattle.k42_handles.specs.declared.refusal.Refusal.TheVariants.{Argument, Memory, Object, Worn}
use Rattle.k42_handles.specs.declared.seat.Rests.{Rests as Resting}
use Rattle.k42_handles.specs.declared.seat.Swaps.{Swaps as Swapping}
use Rattle.k42_handles.specs.declared.seat.Seat.{Seat}
use Rattle.k42_handles.specs.declared.seat.Seat.TheVariants.{Rests, Swaps}
use Rattle.k42_handles.specs.declared.swapping.Progress.{Progress}
use Rattle.k42_handles.specs.declared.swapping.Progress.TheVariants.{Underway, Ended}

-- what is told of a step
abbrev pub told_by : Step → Result Progress Refusal
told_by (steps.Again cause) = Ok (Underway cause)
told_by (steps.Ended end) = Ok (Ended end)
told_by steps.Memory = Err Memory
told_by steps.Worn = Err Worn

-- its pass goes on with the swap, or rests
abbrev pub GoesOnOrRests : Step → Swapping → SwapSeen → SystemPass → Seat → Type 0
GoesOnOrRests (steps.Again cause) old swap pass seat =
    (new : Swapping) × (seat ≡ Swaps new) × (new.home ≡ old.home) × (new.swap ≡ swap) × (new.pass.value ≡ pass)
GoesOnOrRests step old swap pass seat = (new : Resting) × (seat ≡ Rests new) × (new.home ≡ old.home) × (new.pass.value ≡ pass)

-- One step of the swap was made.
pub record HasSteppedSwap (old : Swapping) (seat : Seat) (told : Result Progress Refusal) : Type 0 where
  pub step : Step
  pub swap : SwapSeen
  pub pass : SystemPass
  pub stepped : HasStepped (arc_value old.home).system step old.swap swap old.pass.value pass
  pub told_is : told ≡ told_by step
  pub seat_is : GoesOnOrRests step old swap pass seat

-- the pass with a swap that has not begun
pub record IsNew (object : ℕ) (to : To) (old : Resting) (new : Swapping) : Type 0 where
  pub home : new.home ≡ old.home
  pub pass : new.pass ≡ old.pass
  pub swap : new.swap ≡ record { object = object; to = to; stage = New; holder = None }

-- A swap of an object that is there was begun by its first step.
pub record HasTriedSwap (object : ℕ) (to : To) (old : Resting) (seat : Seat) (told : Result Progress Refusal) : Type 0 where
  pub missing : length (arc_value old.home).system.plan.objects ≤ object → IsKept Object (Rests old) seat told
  pub stepped :
      object < length (arc_value old.home).system.plan.objects
      → (new : Swapping) × IsNew object to old new × HasSteppedSwap new seat told

-- a swap to what the arguments spell, if they spell it
abbrev pub HasSwapped : ℕ → Option To → Seat → Seat → Result Progress Refusal → Type 0
HasSwapped object None old seat told = IsKept Argument old seat told
HasSwapped object (Some to) (Rests old) seat told = HasTriedSwap object to old seat told
HasSwapped object (Some to) old seat told = IsKept (refusal_of old) old seat told

abbrev pub HasGoneOn : Seat → Seat → Result Progress Refusal → Type 0
HasGoneOn (Swaps old) seat told = HasSteppedSwap old seat told
HasGoneOn old seat told = IsKept (refusal_of old) old seat told
