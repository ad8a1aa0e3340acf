use Rattle.k42_bench.specs.Staying.{StaysIn}
use Rattle.k42_bench.proofs.bench.call_in_activity.Given as goal

abbrev pub invariant-loop-number : goal.invariant-loop-number
invariant-loop-number g l = StaysIn l.system l.initial.pass l.pass
