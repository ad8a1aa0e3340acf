use Rattle.std.proofs.Common.{rules, ◌≡◌, ℕ, List, sym, subst}
use Rattle.k42_board.specs.Plan.{LayoutWords, layouts_of}
use Rattle.k42_board.specs.Starting.{IsStart, IsStarted}
use Rattle.k42_rule.specs.Opened.{IsOpened}
use Rattle.k42_runtime.specs.Plans.{PlanSeen, IsSoundPlan}
use Rattle.k42_runtime.specs.Systems.{is_live_by}
use Rattle.k42_runtime.proofs.Started.{is_start, started}
use Rattle.k42_runtime.proofs.system.System.start.Goals as goal

pub start-requires-clause-start : goal.start-requires-clause-start
start-requires-clause-start g c κs within =
    let words : LayoutWords _ _ _ _ _ = record {
      object = g.L.Kind.object;
      shapes = g.L.Layout.shapes;
      tag_of = g.L.Layout.tag_of;
      has_tag = g.L.Layout.has_tag;
      ways = g.L.Layout.ways;
      whole = g.L.Layout.whole;
      serves = g.L.Layout.serves;
      admitted = g.L.Layout.admitted;
      act_of = g.L.Layout.act_of;
      leads = g.L.Layout.leads;
    } in
    let plan : PlanSeen _ = record { procs = c.plan.inside.procs; objects = c.plan.inside.objects.items; callers = c.plan.inside.callers.items; keep = c.plan.inside.keep } in
    let layouts : c.in_ok-layouts.layouts.items ≡ plan.objects = search rules in
    let callers : c.in_ok-callers.callers.items ≡ plan.callers = search rules in
    subst (λ (z : List _ × List ℕ). IsStart g.L.Layout.shapes g.L.Layout.tag_of z.0 plan.procs z.1) (λ k. (sym layouts k, sym callers k))
    (is_start words plan c.plan.invariant)

pub start-requires-clause-tags : goal.start-requires-clause-tags
start-requires-clause-tags g c κs within o layout at = (g.met.L.Clustered g.world.𝓛 g.world.𝓜 g.world.𝓡 ((λ s x. x), (λ x. x), (λ x. x), λ x. x)).has_all layout

pub returns : goal.returns
returns g c =
    let words : LayoutWords _ _ _ _ _ = record {
      object = g.L.Kind.object;
      shapes = g.L.Layout.shapes;
      tag_of = g.L.Layout.tag_of;
      has_tag = g.L.Layout.has_tag;
      ways = g.L.Layout.ways;
      whole = g.L.Layout.whole;
      serves = g.L.Layout.serves;
      admitted = g.L.Layout.admitted;
      act_of = g.L.Layout.act_of;
      leads = g.L.Layout.leads;
    } in
    let is : IsStarted c.args.plan.objects c.args.plan.procs c.args.plan.callers c.in_ok-sys.sys c.in_ok-sys.passes.items = search rules in
    let procs : c.plan.inside.procs ≡ c.args.plan.procs = search rules in
    let layouts : c.in_ok-layouts.layouts.items ≡ c.args.plan.objects = search rules in
    let callers : c.in_ok-callers.callers.items ≡ c.args.plan.callers = search rules in
    let sound : IsSoundPlan (is_live_by g.L.Layout.shapes g.L.Layout.tag_of) c.args.plan = search rules in
    let keeps : c.in_ok-sys.sys.keep ≡ c.args.plan.keep = search rules in
    started words c.args.plan c.in_ok-sys.sys c.in_ok-sys.passes.items sound is keeps
    (subst (λ (z : ℕ × List _ × List ℕ). IsOpened (layouts_of words z.0 z.2) z.1 z.2) (λ k. (procs k, layouts k, callers k)) c.in_ok-sys.ensures.opened)
