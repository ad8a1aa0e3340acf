use Rattle.k42_runtime.proofs.cells.lock_patiently.Goals as goal

pub returns-then-lock_quietly-eq0-clause-takes : goal.returns-then-lock_quietly-eq0-clause-takes
returns-then-lock_quietly-eq0-clause-takes g c = rw (← c.loop.invariant) (c.lock_quietly.ensures.free c.if-lock_quietly-eq0.true).takes

pub returns-clause-takes : goal.returns-clause-takes
returns-clause-takes g c = rw (← c.loop.invariant) c.lock.ensures.takes
