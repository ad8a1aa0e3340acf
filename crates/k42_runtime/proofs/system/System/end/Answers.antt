use Rattle.std.proofs.Common.{sym, subst}
use Rattle.k42_rule.specs.Finishing.{lists_in}
use Rattle.k42_runtime.specs.Histories.{MayEnd}
use Rattle.k42_runtime.specs.Systems.{SystemSeen}
use Rattle.k42_runtime.proofs.Closed.{TraceLaw, at_rest, has_history}
use Rattle.std.proofs.Common.{ℕ}
use Rattle.k42_stamp.specs.Layouts.{layouts_with}
use Rattle.k42_runtime.proofs.system.System.end.Goals as goal

pub finish-requires-after_bounds : goal.finish-requires-after_bounds
finish-requires-after_bounds g c κs within =
    let system : SystemSeen _ = record { sys = c.self.inside.sys; plan = c.self.inside.plan } in
    at_rest _ system c.args.passes.items c.self.invariant (subst (λ s. MayEnd s c.args.passes.items) (sym c.self.view_is) c.requires)

pub returns : goal.returns
returns g c =
    let system : SystemSeen _ = record { sys = c.self.inside.sys; plan = c.self.inside.plan } in
    rw (← c.self.view_is)
    (has_history (layouts_with g.L.Kind.object g.L.Layout.shapes g.L.Layout.tag_of g.L.Layout.ways g.L.Layout.whole g.L.Layout.serves g.L.Layout.admitted g.L.Layout.act_of c.self.inside.sys.procs) _ system c.self.invariant (subst (λ (n : ℕ). TraceLaw (layouts_with g.L.Kind.object g.L.Layout.shapes g.L.Layout.tag_of g.L.Layout.ways g.L.Layout.whole g.L.Layout.serves g.L.Layout.admitted g.L.Layout.act_of n) n) c.procs.ensures.is c.trace_at_rest_is_a_history.ensures) c.lists_have_a_merge.ensures
    (lists_in c.args.passes.items) c.finish.ensures)
