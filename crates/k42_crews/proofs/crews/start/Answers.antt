use Rattle.k42_crews.proofs.FreePasses.{started_free, started_all}
use Rattle.k42_crews.proofs.crews.start.Goals as goal

pub returns-clause-free : goal.returns-clause-free
returns-clause-free g c = started_free _ c.args.plan c.in_ok-system.system c.in_ok-system.passes.items c.in_ok-system.ensures

pub returns-clause-all : goal.returns-clause-all
returns-clause-all g c = started_all _ c.args.plan c.in_ok-system.system c.in_ok-system.passes.items c.in_ok-system.ensures
