use Rattle.std.proofs.Common.{◌≡◌}
use Rattle.k42_crews.specs.Ready.{IsIn}
use Rattle.runtime_threads.proofs.tests.staying.LongStay.add_inside.Given as goal

abbrev pub invariant-loop : goal.invariant-loop
invariant-loop g l = record {
  inside : IsIn l.system l.pass;
  caller : l.pass.view.number ≡ l.initial.pass.view.number;
  keep : l.pass.keep ≡ l.initial.pass.keep;
}
