use Rattle.k42_tables.proofs.Waited.{IsWaiting}
use Rattle.k42_tables.proofs.missing.miss.Given as goal

abbrev pub invariant-loop : goal.invariant-loop
invariant-loop g l = IsWaiting l.object l.initial.pass l.pass
