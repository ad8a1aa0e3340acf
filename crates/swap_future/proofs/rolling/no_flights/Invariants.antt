use Rattle.std.proofs.Common.{◌≡◌, None, replicate}
use Rattle.swap_future.proofs.rolling.no_flights.Given as goal

abbrev pub invariant-loop : goal.invariant-loop
invariant-loop l = l.flights.items ≡ replicate l.counter None
