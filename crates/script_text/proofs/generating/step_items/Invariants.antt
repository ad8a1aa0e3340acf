use Rattle.script_text.proofs.GeneratedSteps.{HasSteps}
use Rattle.script_text.proofs.generating.step_items.Given as goal

abbrev pub invariant-loop-before : goal.invariant-loop-before
invariant-loop-before l = HasSteps l.steps l.line l.worker l.before l.drawn l.items
