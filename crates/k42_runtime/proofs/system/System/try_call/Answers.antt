use Rattle.std.proofs.Common.{subst, sym}
use Rattle.k42_runtime.specs.Calls.{IsAsked}
use Rattle.k42_runtime.specs.Systems.{SystemSeen}
use Rattle.k42_runtime.proofs.CallWaited.{asked_of}
use Rattle.k42_runtime.proofs.system.System.try_call.Goals as goal

pub try_once-requires-clause-asked : goal.try_once-requires-clause-asked
try_once-requires-clause-asked g c κs within =
    let system : SystemSeen _ = record { sys = c.self.inside.sys; plan = c.self.inside.plan } in
    asked_of _ _ system c.self.invariant c.args.object c.args.op.now
    (subst (λ (z : SystemSeen _). IsAsked g.L.Kind.object z.plan.objects c.args.object c.args.op.now) (sym c.self.view_is) c.requires.asked)
