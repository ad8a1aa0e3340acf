use Rattle.std.proofs.Common.{◌≡◌}
use Rattle.runtime_threads.specs.Ready.{IsSwapping}
use Rattle.runtime_threads.proofs.tests.staying.LongStay.swap_once.Given as goal

abbrev pub invariant-loop : goal.invariant-loop
invariant-loop g l = record {
  swapping : IsSwapping l.system l.swap l.pass;
  caller : l.pass.view.number ≡ l.initial.pass.view.number;
  keep : l.pass.keep ≡ l.initial.pass.keep;
}
