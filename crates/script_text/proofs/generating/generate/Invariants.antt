use Rattle.script_text.proofs.GeneratedSteps.{HasWorkers}
use Rattle.script_text.proofs.generating.generate.Given as goal

abbrev pub invariant-loop-worker : goal.invariant-loop-worker
invariant-loop-worker l = HasWorkers l.steps l.worker l.line l.workers
