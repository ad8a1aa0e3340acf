use Rattle.k42_tables.proofs.ServedCells.{look_up_served}
use Rattle.k42_tables.proofs.calls.look_up.Goals as goal

pub returns-clause-served : goal.returns-clause-served
returns-clause-served g c =
    let takes = c.look_up_step.ensures.takes in
    rw c.entered_at.ensures
    (look_up_served _ _ c.rows_inside_are_present.ensures c.cells_inside_are_open.ensures c.look_up_step.new.pass.seat c.args.object c.look_up_step.result _ c.args.pass.now.view _
    c.requires.ours.proc takes.knows takes.finds)
