use Rattle.std.proofs.Common.{◌≡◌, ◌≤◌, ◌++◌, ◌∷◌, [], replicate}
use Rattle.k42_copies.proofs.row.row_of.Given as goal

abbrev pub invariant-loop : goal.invariant-loop
invariant-loop g l = (l.row.items ++ l.state ∷ [] ≡ replicate l.counter l.state) × (1 ≤ l.counter) × (l.counter ≤ l.many)
