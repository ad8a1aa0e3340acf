use Rattle.std.proofs.Common.{◌≡◌, ◌+◌, length, ap}
use Rattle.script_text.proofs.GeneratedSteps.{HasSteps-own, HasSteps-other}
use Rattle.script_text.proofs.generating.step_items.Goals as goal
use Rattle.script_text.proofs.generating.step_items.Goals.{then-step-worker+in_ok-step_line+in_ok-push, else-step-worker}

pub loop-before-preserved : goal.loop-before-preserved
loop-before-preserved c = elim c.if-step-worker.branch [
  | then-step-worker+in_ok-step_line+in_ok-push w ↦
      let at : c.args.line + w.len.result ≡ c.args.line + length c.loop-before.items = ap (λ length. c.args.line + length) w.len.ensures in
      rw (w.items-is, w.in_ok-push.ensures.ok, w.in_ok-step_line.ensures, at) (HasSteps-own c.args.steps c.args.line c.args.worker c.loop-before.before c.loop-before.drawn c.next_drawn-drawn.result c.loop-before.items c.loop-before.invariant c.next_drawn-drawn.ensures w.if-step-worker.true)
  | else-step-worker w ↦
      rw w.items-is (HasSteps-other c.args.steps c.args.line c.args.worker c.loop-before.before c.loop-before.drawn c.next_drawn-drawn.result c.loop-before.items c.loop-before.invariant c.next_drawn-drawn.ensures w.if-step-worker.false)
]
