use Rattle.task_workers.proofs.TaskLists.{IsInRound}
use Rattle.task_workers.proofs.rounds.round.Given as goal

abbrev pub invariant-loop-index : goal.invariant-loop-index
invariant-loop-index g l = IsInRound l.system l.initial.tasks l.fn.refused l.index l.tasks l.found.going l.found.refused
