use Rattle.k42_runtime.proofs.SwapWaits.{IsStepped}
use Rattle.k42_runtime.proofs.waiting.carry_out.Given as goal

abbrev pub invariant-loop : goal.invariant-loop
invariant-loop g l = IsStepped l.system l.initial.swap l.swap l.initial.pass l.pass
