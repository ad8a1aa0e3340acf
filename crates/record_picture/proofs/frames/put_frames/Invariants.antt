use Rattle.record_picture.specs.Frames.{lane_frames}
use Rattle.record_picture.proofs.PlacedTexts.{IsUnderway}
use Rattle.record_picture.proofs.frames.put_frames.Given as goal

abbrev pub invariant-loop-worker : goal.invariant-loop-worker
invariant-loop-worker l = IsUnderway (lane_frames l.before l.lines) l.script.workers l.initial.out.items l.out.items l.worker-index l.lane
