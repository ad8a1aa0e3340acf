use Rattle.std.proofs.Common.{rules, ◌≡◌, ℕ, List, map, Some, sym, ◌∙◌, subst}
use Rattle.std.proofs.lemmas.Option.{none-some}
use Rattle.script_text.specs.declared.script.WorkerLines.{WorkerLines}
use Rattle.co_system.specs.Systems.{SystemLayout, plan_fault}
use Rattle.k42_workers.specs.Plans.{layout_of, plan_of}
use Rattle.k42_workers.proofs.Planned.{no_fault}
use Rattle.k42_workers.proofs.plans.plan_of.Goals as goal

pub unreachable-requires : goal.unreachable-requires
unreachable-requires c =
    let script = c.args.script.now in
    let objects : c.in_ok-objects.objects.items ≡ map layout_of script.objects = search rules in
    let callers : c.in_ok-callers.callers.items ≡ map (λ (worker : WorkerLines). worker.proc) script.workers = search rules in
    let fault : plan_fault script.procs (plan_of script).objects (plan_of script).callers ≡ Some c.in-Err.field-0 = subst (λ (z : List SystemLayout × List ℕ). plan_fault script.procs z.0 z.1 ≡ Some c.in-Err.field-0) (λ k. (objects k, callers k)) c.in-Err.ensures.fault in
    none-some c.in-Err.field-0 (sym (no_fault script c.requires.sound c.requires.asked) ∙ fault)
