use Rattle.k42_runtime.proofs.CallWaited.{IsCalling}
use Rattle.k42_runtime.proofs.system.System.call.Given as goal

abbrev pub invariant-loop : goal.invariant-loop
invariant-loop g l = IsCalling l.self l.initial.pass l.pass
