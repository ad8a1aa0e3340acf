use Rattle.k42_crews.specs.Ready.{StaysFree}
use Rattle.runtime_threads.proofs.tests.watching.Instrument.swap_on.Given as goal

abbrev pub invariant-loop-number : goal.invariant-loop-number
invariant-loop-number g l = StaysFree l.system l.initial.pass l.pass
