use Rattle.task_workers.proofs.Crewed.{IsFilled}
use Rattle.task_workers.proofs.running.tasks_of.Given as goal

abbrev pub invariant-loop-pass : goal.invariant-loop-pass
invariant-loop-pass l = IsFilled l.system l.workers l.tasks.items l.fn.passes.items l.pass-iterator.rest.items
