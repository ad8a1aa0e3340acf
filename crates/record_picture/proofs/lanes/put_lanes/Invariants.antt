use Rattle.record_picture.specs.Lanes.{lane_text}
use Rattle.record_picture.proofs.PlacedTexts.{IsUnderway}
use Rattle.record_picture.proofs.lanes.put_lanes.Given as goal

abbrev pub invariant-loop-worker : goal.invariant-loop-worker
invariant-loop-worker l = IsUnderway lane_text l.script.workers l.initial.out.items l.out.items l.worker-index l.lane
