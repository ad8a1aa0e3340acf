-- A step of a swap is said of its seat.
use Rattle.std.proofs.Common.{◌≡◌, subst}
use Rattle.std.specs.Prelude.{Result}
use Rattle.std.specs.Arc.{arc_value}
use Rattle.k42_runtime.specs.Swaps.{SwapSeen, HasStepped}
use Rattle.co_system.specs.Systems.{SystemPass}
use Rattle.k42_runtime.specs.declared.swaps.Step.{Step}
use Rattle.k42_handles.specs.Swapping.{HasSteppedSwap, GoesOnOrRests, told_by}
use Rattle.k42_handles.specs.declared.refusal.Refusal.{Refusal}
use Rattle.k42_handles.specs.declared.seat.Seat.{Seat}
use Rattle.k42_handles.specs.declared.seat.Swaps.{Swaps as Swapping}
use Rattle.k42_handles.specs.declared.swapping.Progress.{Progress}

pub made_step : (old : Swapping) (swap : SwapSeen) (pass : SystemPass) (seat : Seat) (told : Result Progress Refusal) (result step : Step) → result ≡ step
    → HasStepped (arc_value old.home).system result old.swap swap old.pass.value pass → told ≡ told_by step → GoesOnOrRests step old swap pass seat → HasSteppedSwap old seat told
made_step old swap pass seat told result step is stepped told_is seat_is = record {
  step = step;
  swap = swap;
  pass = pass;
  stepped = subst (λ (by : Step). HasStepped (arc_value old.home).system by old.swap swap old.pass.value pass) is stepped;
  told_is = told_is;
  seat_is = seat_is;
}
