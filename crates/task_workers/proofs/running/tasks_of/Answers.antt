use Rattle.std.proofs.Common.{◌≡◌, ◌∙◌, ℕ, List, ◌∷◌, length, refl, sym, subst, arith}
use Rattle.std.specs.Prelude.{Some, slice_get}
use Rattle.std.proofs.lemmas.Option.{slice_get_read}
use Rattle.script_text.specs.declared.script.Item.{Item}
use Rattle.co_system.specs.Systems.{SystemPass}
use Rattle.task_workers.specs.Tasks.{MayBegin}
use Rattle.task_workers.specs.declared.tasks.WorkerTask.{WorkerTask}
use Rattle.task_workers.proofs.Crewed.{IsFilled, one_filled, worker_there}
use Rattle.task_workers.proofs.running.tasks_of.Goals as goal

pub loop-pass-preserved : goal.loop-pass-preserved
loop-pass-preserved c =
    let system = c.args.system.now in let workers = c.args.workers.now in let passes = c.args.passes.items in let tasks = c.loop-pass.tasks.items in
    let pass = c.in-Some.pass in let rest = c.next.new.self.rest.items in let worker = c.index-workers-len.result in
    let filled : IsFilled system workers tasks passes (pass ∷ rest) =
    subst (λ (left : List SystemPass). IsFilled system workers tasks passes left) c.in-Some.ensures.steps.0 c.loop-pass.invariant in
    let less = worker_there system workers tasks passes rest pass c.requires filled in
    let len : c.len.result ≡ length tasks = omega (arith, c.len.ensures, c.loop-pass.tasks.ok.0) in
    let there : slice_get workers (length tasks) ≡ Some worker =
    subst (λ (n : ℕ). slice_get workers n ≡ Some worker) len
    (slice_get_read workers (length workers) c.len.result worker refl (omega (arith, less, len)) c.index-workers-len.is) in
    subst (λ (all : List WorkerTask). IsFilled system workers all passes rest) (sym c.in_ok-push.ensures.items)
    (one_filled system workers tasks passes rest pass c.requires filled worker there c.new.result c.new.ensures.pass (c.new.ensures.items ∙ c.as_slice.ensures) c.new.ensures.first.2
    (λ may. c.new.ensures.may system (subst (λ (items : List Item). MayBegin system pass items) (sym c.as_slice.ensures) may)))
