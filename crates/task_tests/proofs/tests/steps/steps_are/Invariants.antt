use Rattle.std.proofs.Common.{true}
use Rattle.task_workers.specs.Rounds.{AreInRun}
use Rattle.task_tests.proofs.tests.steps.steps_are.Given as goal

abbrev pub invariant-loop-place : goal.invariant-loop-place
invariant-loop-place g l = AreInRun l.system true l.tasks
