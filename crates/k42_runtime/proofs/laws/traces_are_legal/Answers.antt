use Rattle.std.proofs.Common.{subst}
use Rattle.k42_runtime.proofs.Traces.{LegalLaw, shown}
use Rattle.std.proofs.Common.{ℕ}
use Rattle.k42_stamp.specs.Layouts.{layouts_with}
use Rattle.k42_runtime.proofs.laws.traces_are_legal.Goals as goal

pub returns : goal.returns
returns g c =
    rw (← c.system.view_is)
    (shown (layouts_with g.L.Kind.object g.L.Layout.shapes g.L.Layout.tag_of g.L.Layout.ways g.L.Layout.whole g.L.Layout.serves g.L.Layout.admitted g.L.Layout.act_of c.system.inside.sys.procs) _ (record { sys = c.system.inside.sys; plan = c.system.inside.plan }) c.system.invariant
    (subst (λ (n : ℕ). LegalLaw (layouts_with g.L.Kind.object g.L.Layout.shapes g.L.Layout.tag_of g.L.Layout.ways g.L.Layout.whole g.L.Layout.serves g.L.Layout.admitted g.L.Layout.act_of n) n) c.procs.ensures.is c.trace_is_legal.ensures))
