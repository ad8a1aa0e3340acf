use Rattle.std.proofs.Common.{◌∙◌, sym}
use Rattle.task_workers.proofs.TaskLists.{may_turn, not_both, turned}
use Rattle.task_workers.proofs.rounds.round.Goals.{then-found, else-found}
use Rattle.task_workers.proofs.rounds.round.Goals as goal

pub turn-one-requires : goal.turn-one-requires
turn-one-requires g c =
    let l = c.loop-index in
    may_turn c.args.system.now c.args.tasks.now l.tasks c.args.refused l.found.going l.found.refused l.index l.invariant c.index-tasks-index.result c.loop-index-test.true

pub loop-index-preserved : goal.loop-index-preserved
loop-index-preserved g c =
    let l = c.loop-index in let one = c.turn-one.ensures in
    turned c.args.system.now c.args.tasks.now l.tasks c.args.refused l.found.going l.found.refused l.index l.invariant
    c.turn-one.new.task c.index-tasks-index.result c.if-found.found c.turn-one.result.refused
    one.own one.in_run
    (λ none. elim c.if-found.branch [
      | then-found w ↦ not_both (sym w.if-found.true ∙ sym w.found-is ∙ none)
      | else-found w ↦ (w.if-found.false, one.ended (sym w.found-is ∙ none))
    ])
    one.kept
