use Rattle.std.proofs.Common.{◌≡◌, map}
use Rattle.task_workers.specs.Rounds.{AreInRun, own_of}
use Rattle.task_workers.proofs.rounds.run_rounds.Given as goal

abbrev pub invariant-loop : goal.invariant-loop
invariant-loop g l = AreInRun l.system l.refused l.tasks × (map own_of l.tasks ≡ map own_of l.initial.tasks)
