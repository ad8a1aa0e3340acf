use Rattle.std.proofs.Common.{◌≡◌, ◌≤◌, replicate}
use Rattle.co_directory.proofs.copies.copies.Given as goal

abbrev pub invariant-loop : goal.invariant-loop
invariant-loop l = (l.copies.items ≡ replicate l.counter l.names) × (l.counter ≤ l.many)
