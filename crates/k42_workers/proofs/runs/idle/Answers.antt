use Rattle.std.proofs.Common.{refl, subst}
use Rattle.co_system.specs.Systems.{HasStarted}
use Rattle.k42_workers.specs.Plans.{idle_plan}
use Rattle.k42_workers.proofs.Ended.{started_at_rest, run_of_none, idle_closed}
use Rattle.k42_workers.proofs.runs.idle.Goals as goal

pub close-requires-after_bounds : goal.close-requires-after_bounds
close-requires-after_bounds c κs =
    let made = c.in_ok-system in
    let started : HasStarted idle_plan made.system made.passes.items = subst (λ plan. HasStarted plan made.system made.passes.items) c.in_ok-idle_plan.ensures made.ensures in
    started_at_rest idle_plan made.system made.passes.items started refl

pub returns-in-Ok-clause-closed : goal.returns-in-Ok-clause-closed
returns-in-Ok-clause-closed c =
    let made = c.in_ok-system in
    let started : HasStarted idle_plan made.system made.passes.items = subst (λ plan. HasStarted plan made.system made.passes.items) c.in_ok-idle_plan.ensures made.ensures in
    run_of_none c.args.script.now c.requires c.in-Ok.history.entries (idle_closed made.system made.passes.items c.in-Ok.history started c.in-Ok.ensures.ok)
