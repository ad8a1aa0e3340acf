use Rattle.k42_runtime.proofs.CallServed.{found_direct, goes_after, each_after, gives_way}
use Rattle.k42_runtime.proofs.serving.go_inside.Goals as goal

pub returns-in-Direct-clause-went : goal.returns-in-Direct-clause-went
returns-in-Direct-clause-went g c =
    found_direct c.args.object _ _ c.args.pass.now.view c.look_up.new.pass.view c.in-Direct.ensures.answered c.in-Direct.ensures.stepped.takes.knows c.in-Direct.ensures.there

pub returns-in-Missed-clause-went : goal.returns-in-Missed-clause-went
returns-in-Missed-clause-went g c =
    each_after c.args.object _ c.args.pass.now.view c.look_up.new.pass.view c.fill.new.pass.view c.in-Missed.ensures.stepped.takes.knows c.fill.result c.fill.ensures.went

pub returns-in-Mediated-clause-went : goal.returns-in-Mediated-clause-went
returns-in-Mediated-clause-went g c =
    goes_after c.args.object _ c.args.pass.now.view c.look_up.new.pass.view c.ask.new.pass.view c.in-Mediated.ensures.stepped.takes.knows c.ask.result c.ask.ensures.went

pub returns-in-Missed-clause-memory : goal.returns-in-Missed-clause-memory
returns-in-Missed-clause-memory g c =
    gives_way c.args.object _ c.args.pass.now.view c.look_up.new.pass.view c.fill.new.pass.view c.in-Missed.ensures.stepped.takes.knows c.fill.result c.fill.ensures.memory
