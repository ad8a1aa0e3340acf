use Rattle.std.proofs.Common.{rules, ◌<◌, length}
use Rattle.k42_quiesce.proofs.HandedRows.{handed_none, handed_one}
use Rattle.k42_quiesce.proofs.collecting.hand_over.Goals as goal

pub loop-pass-init : goal.loop-pass-init
loop-pass-init g c = (c.requires.ours, handed_none _)

pub loop-pass-preserved : goal.loop-pass-preserved
loop-pass-preserved g c =
    let some : 0 < length c.loop-pass.pass.view.rows = search rules in
    handed_one _ _ _ c.in_ok-push_row.ensures.ok _ c.loop-pass.invariant.0 c.loop-pass.invariant.1 some
