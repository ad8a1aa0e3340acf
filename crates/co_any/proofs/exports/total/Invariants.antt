use Rattle.std.proofs.Common.{◌≡◌, ◌+◌, ◌%◌, ◌^◌, drop, map}
use Rattle.std.specs.List.{sum}
use Rattle.co_counter.specs.Counters.{total_of}
use Rattle.co_any.specs.Layouts.{amount_of}
use Rattle.co_any.proofs.exports.total.Given as goal

abbrev pub invariant-loop-part : goal.invariant-loop-part
invariant-loop-part l = (l.total + sum (map amount_of (drop l.part-index l.parts))) % 2 ^ 64 ≡ total_of (map amount_of l.parts)
