use Rattle.std.proofs.Common.{◌≡◌, ◌+◌, ◌%◌, ◌^◌, drop}
use Rattle.std.specs.List.{sum}
use Rattle.co_counter.specs.Counters.{total_of}
use Rattle.co_counter.proofs.spread.total.Given as goal

abbrev pub invariant-loop-amount : goal.invariant-loop-amount
invariant-loop-amount l = (l.total + sum (drop l.amount-index l.amounts)) % 2 ^ 64 ≡ total_of l.amounts
