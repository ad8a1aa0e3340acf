use Rattle.std.proofs.Common.{◌∙◌, length, refl, sym, subst, ap}
use Rattle.std.specs.Prelude.{Some}
use Rattle.std.proofs.lemmas.Option.{slice_get_read}
use Rattle.task_workers.specs.Steps.{HasStepped}
use Rattle.task_workers.specs.declared.tasks.TaskStep.{TaskStep}
use Rattle.task_workers.specs.declared.tasks.TaskStep.TheVariants.{Ended}
use Rattle.task_workers.specs.declared.tasks.WorkerTask.{WorkerTask}
use Rattle.task_workers.proofs.ItemsDone.{begin_followed, end_followed, ends_at_all, none_left}
use Rattle.task_workers.proofs.tasks.WorkerTask.step.Goals as goal

pub returns-in_default-clause-stepped : goal.returns-in_default-clause-stepped
returns-in_default-clause-stepped g c = none_left c.args.system.now c.args.self.now c.requires.task c.requires.going c.in_default.ensures.lookup.3

pub returns-in_default-clause-all : goal.returns-in_default-clause-all
returns-in_default-clause-all g c =
    ends_at_all c.args.system.now Ended c.args.self.now _ (none_left c.args.system.now c.args.self.now c.requires.task c.requires.going c.in_default.ensures.lookup.3)

pub answer-requires-clause-next : goal.answer-requires-clause-next
answer-requires-clause-next g c =
    let items = c.args.self.now.items.now in let found = c.in-Some.ensures.lookup in
    slice_get_read items (length items) c.args.self.now.done c.in-Some.item.now refl found.3.0 found.1 ∙ ap Some c.in-Line.is

pub returns-in-Begin-clause-stepped : goal.returns-in-Begin-clause-stepped
returns-in-Begin-clause-stepped g c =
    let items = c.args.self.now.items.now in let found = c.in-Some.ensures.lookup in
    let next = slice_get_read items (length items) c.args.self.now.done c.in-Some.item.now refl found.3.0 found.1 ∙ ap Some c.in-Begin.is in
    subst (λ (z : TaskStep × WorkerTask). HasStepped c.args.system.now z.0 c.args.self.now z.1) (λ j. (sym c.go_on.ensures.step j, sym c.go_on.ensures.task j))
    (begin_followed c.args.system.now c.args.self.now c.requires.task c.requires.going next)

pub returns-in-End-clause-stepped : goal.returns-in-End-clause-stepped
returns-in-End-clause-stepped g c =
    let items = c.args.self.now.items.now in let found = c.in-Some.ensures.lookup in
    let next = slice_get_read items (length items) c.args.self.now.done c.in-Some.item.now refl found.3.0 found.1 ∙ ap Some c.in-End.is in
    let left = c.leave_open.ensures in
    subst (λ (z : TaskStep × WorkerTask). HasStepped c.args.system.now z.0 c.args.self.now z.1) (λ j. (sym c.go_on-in-End.ensures.step j, sym c.go_on-in-End.ensures.task j))
    (end_followed c.args.system.now c.args.self.now c.requires.task c.requires.going next c.leave_open.new.pass left.here left.rests left.left left.caller)
