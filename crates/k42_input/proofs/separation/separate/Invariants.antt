use Rattle.std.proofs.Common.{◌-◌, length}
use Rattle.k42_input.proofs.Separating.{IsPassed}
use Rattle.k42_input.proofs.separation.separate.Given as goal

abbrev pub invariant-loop-start : goal.invariant-loop-start
invariant-loop-start l = IsPassed l.input l.start

abbrev pub decreases-loop-start : goal.decreases-loop-start
decreases-loop-start l = length l.input - l.start
