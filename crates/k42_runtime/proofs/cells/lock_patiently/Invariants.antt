use Rattle.std.specs.Prelude.{◌≡◌}
use Rattle.k42_runtime.proofs.cells.lock_patiently.Given as goal

abbrev pub invariant-loop : goal.invariant-loop
invariant-loop g l = l.pass ≡ l.fn.pass
