use Rattle.std.proofs.Common.{Ok, Err, sym, ap, subst}
use Rattle.k42_runtime.specs.Swaps.{IsAtStage, HasStepped, is_over}
use Rattle.k42_runtime.proofs.SwapWaits.{not_stepped, stepped_again, ended_since}
use Rattle.k42_runtime.proofs.waiting.carry_out.Goals as goal

pub loop-init : goal.loop-init
loop-init g c =
    not_stepped c.args.system.now c.args.swap.now c.args.pass.now c.requires.ours
    (subst (λ stage. IsAtStage stage c.args.system.now.sys.shapes c.args.swap.now c.args.pass.now) (sym c.requires.new) c.requires.stage)
    (ap is_over c.requires.new)

pub loop-preserved : goal.loop-preserved
loop-preserved g c =
    stepped_again c.args.system.now c.args.swap.now c.loop.swap c.step.new.self c.args.pass.now c.loop.pass c.step.new.pass c.in-Again.field-0 c.loop.invariant
    (subst (λ answer. HasStepped c.args.system.now answer c.loop.swap c.step.new.self c.loop.pass c.step.new.pass) c.in-Again.is c.step.ensures)

pub returns-in-Ended : goal.returns-in-Ended
returns-in-Ended g c =
    ended_since c.args.system.now c.args.swap.now c.loop.swap c.step.new.self c.args.pass.now c.loop.pass c.step.new.pass c.requires.new c.loop.invariant (Ok c.in-Ended.end)
    (subst (λ answer. HasStepped c.args.system.now answer c.loop.swap c.step.new.self c.loop.pass c.step.new.pass) c.in-Ended.is c.step.ensures)

pub returns-in-Memory : goal.returns-in-Memory
returns-in-Memory g c =
    ended_since c.args.system.now c.args.swap.now c.loop.swap c.step.new.self c.args.pass.now c.loop.pass c.step.new.pass c.requires.new c.loop.invariant (Err _)
    (subst (λ answer. HasStepped c.args.system.now answer c.loop.swap c.step.new.self c.loop.pass c.step.new.pass) c.in-Memory.is c.step.ensures)
