use Rattle.std.proofs.Common.{rules, ◌≡◌, None}
use Rattle.k42_runtime.specs.Plans.{plan_fault}
use Rattle.k42_runtime.proofs.Planned.{sound}
use Rattle.k42_runtime.specs.Systems.{is_live_by}
use Rattle.k42_runtime.proofs.plan.Plan.new.Goals as goal

pub invariant_of-result : goal.invariant_of-result
invariant_of-result g c =
    let none : plan_fault (is_live_by g.L.Layout.shapes g.L.Layout.tag_of) c.args.procs c.args.objects.items c.args.callers.items ≡ None = search rules in
    sound _ (record { procs = c.args.procs; objects = c.args.objects.items; callers = c.args.callers.items; keep = c.args.keep }) none
