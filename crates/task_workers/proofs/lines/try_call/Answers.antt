use Rattle.std.proofs.Common.{refl}
use Rattle.task_workers.proofs.TriedCalls.{call_done, call_held, same_called, same_left}
use Rattle.task_workers.proofs.lines.try_call.Goals as goal

pub returns-in-Again-clause-same : goal.returns-in-Again-clause-same
returns-in-Again-clause-same c =
    same_called c.args.system.now c.args.pass.now c.open.new.pass c.step.new.pass c.open.ensures.caller (c.in-Again.ensures.again c.in-Again.cause refl).keeps c.step.ensures.here

pub returns-in-Again-clause-tried : goal.returns-in-Again-clause-tried
returns-in-Again-clause-tried c line of =
    call_held c.args.system.now line c.args.inside c.args.call.now c.args.pass.now c.open.new.pass of c.open.ensures.opened c.open.ensures.caller c.open.ensures.graces c.open.ensures.stays
    c.in-Again.cause c.step.new.self c.step.new.pass c.in-Again.ensures.same c.requires.asked c.open.ensures.entered (c.in-Again.ensures.again c.in-Again.cause refl)
    (c.in-Again.ensures.found c.in-Again.cause refl) c.step.ensures.works

pub returns-in-Ended-clause-same : goal.returns-in-Ended-clause-same
returns-in-Ended-clause-same c =
    same_left c.args.system.now c.args.pass.now c.open.new.pass c.step.new.pass c.leave_outside.new.pass c.open.ensures.caller
    (c.in-Ended.ensures.ended c.in-Ended.field-0 refl).keeps c.leave_outside.ensures.caller c.leave_outside.ensures.here

pub returns-in-Ended-clause-tried : goal.returns-in-Ended-clause-tried
returns-in-Ended-clause-tried c line of =
    call_done c.args.system.now line c.args.inside c.args.call.now c.args.pass.now c.open.new.pass of c.open.ensures.opened c.open.ensures.caller c.open.ensures.graces c.open.ensures.stays
    c.in-Ended.field-0 c.step.new.pass c.leave_outside.new.pass (c.in-Ended.ensures.ended c.in-Ended.field-0 refl) c.leave_outside.ensures.between c.leave_outside.ensures.left
    c.leave_outside.ensures.caller

pub returns-in-Memory-clause-same : goal.returns-in-Memory-clause-same
returns-in-Memory-clause-same c =
    same_left c.args.system.now c.args.pass.now c.open.new.pass c.step.new.pass c.leave_open.new.pass c.open.ensures.caller
    (c.in-Memory.ensures.memory refl).keeps c.leave_open.ensures.caller c.leave_open.ensures.here
