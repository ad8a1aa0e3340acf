use Rattle.std.proofs.Common.{◌≡◌, List, [], ◌++◌, map, sym, ap, ◌∙◌, arith}
use Rattle.std.proofs.lemmas.List.{append-nil}
use Rattle.task_workers.specs.declared.tasks.WorkerTask.{WorkerTask}
use Rattle.task_workers.proofs.Crewed.{none_long}
use Rattle.task_workers.proofs.running.passes_of.Goals as goal

pub returns : goal.returns
returns c =
    let passes = c.loop-task.passes.items in let left = c.loop-task.task-iterator.rest in
    let none : left.items ≡ [] = none_long left.items (omega (arith, c.in-None.ensures.steps.0, left.ok.0)) in
    sym (append-nil passes) ∙ ap (λ (rest : List WorkerTask). passes ++ map (λ (task : WorkerTask). task.pass) rest) (sym none) ∙ c.loop-task.invariant.1
