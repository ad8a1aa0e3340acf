use Rattle.std.proofs.Common.{IsSomeAnd, Option, sym, subst, ◌∙◌}
use Rattle.k42_runtime.specs.Swaps.{HasStepped}
use Rattle.co_system.specs.Systems.{SystemPass}
use Rattle.swap_future.specs.Polling.{IsGoing, Ends}
use Rattle.swap_future.proofs.Polled.{ends_later}
use Rattle.swap_future.proofs.polling.SwapFutureFuture.poll.Goals as goal

pub returns-in-Again-clause-same : goal.returns-in-Again-clause-same
returns-in-Again-clause-same c =
    let system = c.args.self.now.system.now in let swap = c.args.self.now.swap in let old = c.in-Some.pass in
    let held = sym c.take.ensures.value ∙ c.in-Some.is in
    let going : IsGoing system swap old = subst (λ (p : Option SystemPass). IsSomeAnd p (IsGoing system swap)) held c.requires in
    let step = subst (λ answer. HasStepped system answer swap c.step.new.self old c.step.new.pass) c.in-Again.is c.step.ensures in
    rw c.yield_now.ensures.pending (λ end ends. subst (λ (p : Option SystemPass). IsSomeAnd p (λ pass. Ends system swap pass end.result end.pass)) (sym held)
    (ends_later system swap c.step.new.self old c.step.new.pass c.in-Again.cause going step end.result end.pass ends))
