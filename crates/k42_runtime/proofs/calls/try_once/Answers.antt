use Rattle.std.proofs.Common.{None, subst}
use Rattle.k42_board.specs.Log.{Extends}
use Rattle.k42_board.specs.Seen.{is_tracked}
use Rattle.k42_board.specs.declared.view.PassView.{PassView}
use Rattle.k42_runtime.specs.Serving.{GoesIn, HasTried, step_with}
use Rattle.k42_runtime.proofs.CallServed.{extends_finished, tried_inside}
use Rattle.k42_runtime.proofs.calls.try_once.Goals as goal

pub returns-in-Ok-None-clause-tried : goal.returns-in-Ok-None-clause-tried
returns-in-Ok-None-clause-tried g c =
    let p0 = c.reserve_entry.new.self.view in let p1 = c.go_inside.new.pass.view in let p2 = c.serve-tried.new.pass.view in let p3 = c.finish_call.new.pass.view in
    let inside : GoesIn None c.args.object p0 p1 = subst (λ held. GoesIn held c.args.object p0 p1) c.in-Ok-None.field-0-is c.in-Ok-None.ensures.went in
    let last : Extends p2.log p3.log =
    extends_finished (is_tracked p2.visitor.place) p2 p3 (λ e. (_, _, (c.finish_call.ensures.direct e).takes.knows)) (λ e. (_, _, (c.finish_call.ensures.tracked e).takes.knows)) in
    subst (λ (v : PassView _ _ _). HasTried (step_with c.serve-tried.result c.serve-tried.new.reply) c.args.object c.args.op.now v p3) c.reserve_entry.ensures.same.view
    (tried_inside c.args.object c.args.op.now p0 p1 c.go_inside.ensures.goes inside p2 p3 c.finish_call.ensures.knows last (step_with c.serve-tried.result c.serve-tried.new.reply) c.serve-tried.ensures.served)
