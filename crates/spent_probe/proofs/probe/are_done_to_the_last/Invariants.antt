use Rattle.k42_crews.specs.Ready.{IsFree}
use Rattle.spent_probe.proofs.probe.are_done_to_the_last.Given as goal

abbrev pub invariant-loop-turn : goal.invariant-loop-turn
invariant-loop-turn g l = IsFree l.system l.zero × IsFree l.system l.one
