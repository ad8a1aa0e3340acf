use Rattle.k42_crews.specs.Ready.{StaysFree}
use Rattle.roll_tests.proofs.tests.beside.add_to_all.Given as goal

abbrev pub invariant-loop-number : goal.invariant-loop-number
invariant-loop-number g l = StaysFree l.system l.initial.pass l.pass
