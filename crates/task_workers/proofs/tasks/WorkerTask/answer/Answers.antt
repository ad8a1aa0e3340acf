use Rattle.std.proofs.Common.{◌≡◌, ℕ, length, Option, Ok, sym, subst, ◌∙◌}
use Rattle.k42_memory.specs.declared.Memory.{Memory}
use Rattle.co_system.specs.Systems.{SystemSeen}
use Rattle.task_workers.specs.Steps.{HasStepped}
use Rattle.task_workers.specs.Tries.{HasTried}
use Rattle.task_workers.specs.declared.tasks.TaskCause.{TaskCause}
use Rattle.task_workers.specs.declared.tasks.TaskStep.{TaskStep}
use Rattle.task_workers.specs.declared.tasks.WorkerTask.{WorkerTask}
use Rattle.task_workers.proofs.LinesTried.{few_begun, may_begun, left_begun, done_begun, held_begun, given_up_begun}
use Rattle.task_workers.proofs.tasks.WorkerTask.answer.Goals as goal

-- the table has as many objects as the plan
shaped : (system : SystemSeen) (objects : ℕ) → objects ≡ length system.sys.shapes → objects ≡ length system.plan.objects → length system.sys.shapes ≡ length system.plan.objects
shaped system objects table plan = sym table ∙ plan

pub try_line-requires-clause-few : goal.try_line-requires-clause-few
try_line-requires-clause-few g c =
    few_begun c.args.system.now (shaped c.args.system.now c.objects-objects.result c.objects-objects.ensures.table c.objects-objects.ensures.plan) c.args.self.now c.requires.task c.requires.going c.args.line.now c.requires.next c.begin.new.self c.begin.ensures

pub try_line-requires-clause-may : goal.try_line-requires-clause-may
try_line-requires-clause-may g c =
    may_begun c.args.system.now (shaped c.args.system.now c.objects-objects.result c.objects-objects.ensures.table c.objects-objects.ensures.plan) c.args.self.now c.requires.task c.requires.going c.args.line.now c.requires.next c.begin.new.self c.begin.ensures

pub go_on-requires : goal.go_on-requires
go_on-requires g c =
    left_begun c.args.system.now (shaped c.args.system.now c.objects-objects.result c.objects-objects.ensures.table c.objects-objects.ensures.plan) c.args.self.now c.requires.task c.requires.going c.args.line.now c.requires.next c.begin.new.self c.begin.ensures

pub returns-in-Ok-None : goal.returns-in-Ok-None
returns-in-Ok-None g c =
    subst (λ (z : TaskStep × WorkerTask). HasStepped c.args.system.now z.0 c.args.self.now z.1) (λ j. (sym c.go_on.ensures.step j, sym c.go_on.ensures.task j))
    (done_begun c.args.system.now (shaped c.args.system.now c.objects-objects.result c.objects-objects.ensures.table c.objects-objects.ensures.plan) c.args.self.now c.requires.task c.requires.going c.args.line.now c.requires.next c.begin.new.self c.begin.ensures
    c.try_line.new.at c.try_line.new.pass c.try_line.ensures.same
    (λ l of.
    subst (λ (held : Option TaskCause). HasTried {E = Memory} c.args.system.now l c.begin.new.self.inside (Ok held) c.begin.new.self.at c.try_line.new.at c.begin.new.self.pass c.try_line.new.pass)
    c.in-Ok-None.field-0-is (c.in-Ok-None.ensures.tried l of)))

pub returns-in-Ok-Some : goal.returns-in-Ok-Some
returns-in-Ok-Some g c =
    held_begun c.args.system.now (shaped c.args.system.now c.objects-objects.result c.objects-objects.ensures.table c.objects-objects.ensures.plan) c.args.self.now c.requires.task c.requires.going c.args.line.now c.requires.next c.begin.new.self c.begin.ensures
    c.try_line.new.at c.try_line.new.pass c.in-Ok-Some.cause c.try_line.ensures.same
    (λ l of.
    subst (λ (held : Option TaskCause). HasTried {E = Memory} c.args.system.now l c.begin.new.self.inside (Ok held) c.begin.new.self.at c.try_line.new.at c.begin.new.self.pass c.try_line.new.pass)
    c.in-Ok-Some.field-0-is (c.in-Ok-Some.ensures.tried l of))

pub returns-in-Err : goal.returns-in-Err
returns-in-Err g c =
    given_up_begun c.args.system.now (shaped c.args.system.now c.objects-objects.result c.objects-objects.ensures.table c.objects-objects.ensures.plan) c.args.self.now c.requires.task c.requires.going c.args.line.now c.requires.next c.begin.new.self c.begin.ensures
    c.try_line.new.at c.try_line.new.pass c.in-Err.field-0 c.try_line.ensures.same c.in-Err.ensures.tried
