use Rattle.std.proofs.Common.{subst}
use Rattle.co_system.specs.Systems.{HasStarted}
use Rattle.k42_workers.specs.Plans.{plan_of}
use Rattle.k42_workers.proofs.Ended.{may_work, started_keep}
use Rattle.k42_workers.proofs.runs.begin_run.Goals as goal

pub returns-clause-may : goal.returns-clause-may
returns-clause-may c =
    let made = c.in_ok-system in
    let script = c.args.script.now in
    let started : HasStarted (plan_of script) made.system made.passes.items = subst (λ plan. HasStarted plan made.system made.passes.items) c.in_ok-plan_of.ensures made.ensures in
    may_work script made.system made.passes.items c.requires.sound started

pub returns-clause-keep : goal.returns-clause-keep
returns-clause-keep c =
    let made = c.in_ok-system in
    let script = c.args.script.now in
    let started : HasStarted (plan_of script) made.system made.passes.items = subst (λ plan. HasStarted plan made.system made.passes.items) c.in_ok-plan_of.ensures made.ensures in
    started_keep (plan_of script) made.system made.passes.items started
