use Rattle.std.proofs.Common.{◌≡◌, ◌+◌, ◌%◌, ◌^◌, drop}
use Rattle.co_limiter.specs.GivenIn.{given_in}
use Rattle.ways_example.proofs.bucket.all_tokens.Given as goal

abbrev pub invariant-loop-entry : goal.invariant-loop-entry
invariant-loop-entry l = (l.sum + given_in 0 (drop l.entry-index l.entries)) % 2 ^ 64 ≡ given_in 0 l.entries % 2 ^ 64
