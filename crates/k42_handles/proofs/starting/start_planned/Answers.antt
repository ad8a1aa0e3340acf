use Rattle.std.proofs.Common.{◌≡◌, rules, sym, subst}
use Rattle.std.specs.Arc.{arc_value}
use Rattle.co_system.specs.Systems.{HasStarted, SystemSeen}
use Rattle.k42_handles.specs.declared.home.Home.{Home}
use Rattle.k42_handles.proofs.Started.{on_ok}
use Rattle.k42_handles.proofs.starting.start_planned.Goals as goal

pub returns : goal.returns
returns c =
    let home : Home = arc_value c.in_ok-home.home in
    let housed : home.system ≡ c.in_ok-system.system = search rules in
    let started : HasStarted c.args.plan c.in_ok-system.system c.in_ok-system.passes.items = search rules in
    on_ok c.seat_all.result
    (λ sit. record {
      home = home;
      passes = c.in_ok-system.passes.items;
      started = subst (λ (system : SystemSeen). HasStarted c.args.plan system c.in_ok-system.passes.items) (sym housed) started;
      sit = sit;
    })
    c.seat_all.ensures
