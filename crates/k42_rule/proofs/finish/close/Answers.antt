use Rattle.k42_rule.proofs.Gathering.{one_more_empty}
use Rattle.k42_rule.proofs.finish.close.Goals as goal

pub loop-slot-preserved : goal.loop-slot-preserved
loop-slot-preserved g c =
    let others = c.take.ensures.others in one_more_empty _ _ c.loop-slot.slot _ _ others.1 others.2 c.loop-slot.invariant
