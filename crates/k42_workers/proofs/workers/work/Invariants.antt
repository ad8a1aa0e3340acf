use Rattle.k42_workers.specs.UnderWay.{IsAt}
use Rattle.k42_workers.proofs.workers.work.Given as goal

abbrev pub invariant-loop-item : goal.invariant-loop-item
invariant-loop-item g l = IsAt l.system l.number l.worker l.item-index l.inside l.pass
