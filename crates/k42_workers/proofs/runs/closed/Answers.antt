use Rattle.k42_workers.proofs.Ended.{worked_out, run_closed}
use Rattle.k42_workers.proofs.runs.closed.Goals as goal

pub close-requires-after_bounds : goal.close-requires-after_bounds
close-requires-after_bounds c κs = worked_out c.args.script.now c.args.system c.args.passes.items c.requires.plan c.requires.many c.requires.worked c.requires.keep

pub returns-in-Ok-clause-closed : goal.returns-in-Ok-clause-closed
returns-in-Ok-clause-closed c = run_closed c.args.script.now c.args.system c.args.passes.items c.in-Ok.history c.requires.plan c.requires.sound c.requires.many c.requires.worked c.in-Ok.ensures.ok
