use Rattle.std.proofs.Common.{List, length, sym, subst}
use Rattle.k42_crews.specs.Ready.{AreFree}
use Rattle.co_system.specs.Systems.{SystemPass}
use Rattle.roll_probe.proofs.Probed.{each_leads, each_within, may_roll}
use Rattle.roll_probe.proofs.probe.begin.Goals as goal

pub new-requires-clause-passes : goal.new-requires-clause-passes
new-requires-clause-passes c = may_roll c.args.system.now c.args.passes.items c.requires.free

pub new-requires-clause-objects : goal.new-requires-clause-objects
new-requires-clause-objects c =
    each_within c.args.plan.items 3 (length c.args.system.now.plan.objects) c.requires.objects c.requires.within

pub new-requires-clause-leads : goal.new-requires-clause-leads
new-requires-clause-leads c = each_leads c.args.system.now.plan c.args.plan.items c.requires.leads

pub returns-in-Err-clause-free : goal.returns-in-Err-clause-free
returns-in-Err-clause-free c =
    subst (λ (passes : List SystemPass). AreFree c.args.system.now passes) (sym c.in-Err.ensures.back) c.requires.free
