use Rattle.std.proofs.Common.{◌≡◌, Err, replicate}
use Rattle.k42_runtime.specs.declared.swaps.NoSwap.TheVariants.{Memory}
use Rattle.swap_future.proofs.rolling.no_answers.Given as goal

abbrev pub invariant-loop : goal.invariant-loop
invariant-loop l = l.answers.items ≡ replicate l.counter (Err Memory)
