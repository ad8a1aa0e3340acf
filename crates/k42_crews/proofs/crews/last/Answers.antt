use Rattle.std.proofs.Common.{subst}
use Rattle.std.specs.Option.{option_to_list}
use Rattle.k42_crews.specs.Ready.{AreFree}
use Rattle.k42_crews.proofs.FreePasses.{front_free, last_free}
use Rattle.k42_crews.proofs.crews.last.Goals as goal

pub returns-clause-others : goal.returns-clause-others
returns-clause-others g c =
    front_free c.args.system.now c.pop.new.self.items (option_to_list c.pop.result)
    (subst (AreFree c.args.system.now) c.pop.ensures.items c.requires.free)

pub returns-clause-free : goal.returns-clause-free
returns-clause-free g c =
    last_free c.args.system.now c.pop.new.self.items c.pop.result
    (subst (AreFree c.args.system.now) c.pop.ensures.items c.requires.free)
