use Rattle.std.proofs.Common.{◌≡◌, drop}
use Rattle.k42_handles.proofs.reading.skip.Given as goal

abbrev pub invariant-loop : goal.invariant-loop
invariant-loop l = l.reader ≡ drop l.counter l.initial.reader
