use Rattle.k42_workers.proofs.Answered.{front_may, back_may}
use Rattle.k42_workers.proofs.workers.halves_may_work.Goals as goal

pub returns-clause-front : goal.returns-clause-front
returns-clause-front c = front_may c.args.system.now c.args.first c.args.count c.args.workers.now c.args.passes.now c.requires.within c.requires.may

pub returns-clause-back : goal.returns-clause-back
returns-clause-back c = back_may c.args.system.now c.args.first c.args.count c.args.workers.now c.args.passes.now c.requires.within c.requires.may
