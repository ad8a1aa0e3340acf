use Rattle.k42_crews.specs.Ready.{StaysFree}
use Rattle.k42_bench.proofs.bench.call_in_blocks.Given as goal

abbrev pub invariant-loop-block : goal.invariant-loop-block
invariant-loop-block g l = StaysFree l.system l.initial.pass l.pass
