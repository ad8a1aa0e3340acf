use Rattle.std.proofs.Common.{◌≡◌, map, take}
use Rattle.script_text.specs.declared.script.WorkerLines.{WorkerLines}
use Rattle.k42_workers.proofs.plans.processors.Given as goal

abbrev pub invariant-loop-worker : goal.invariant-loop-worker
invariant-loop-worker l = l.procs.items ≡ map (λ (worker : WorkerLines). worker.proc) (take l.worker-index l.workers)
