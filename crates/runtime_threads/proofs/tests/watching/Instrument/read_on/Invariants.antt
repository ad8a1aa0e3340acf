use Rattle.k42_crews.specs.Ready.{StaysFree}
use Rattle.runtime_threads.proofs.tests.watching.Instrument.read_on.Given as goal

abbrev pub invariant-loop : goal.invariant-loop
invariant-loop g l = StaysFree l.system l.initial.pass l.pass
