use Rattle.record_picture.specs.Frames.{lane_frames}
use Rattle.record_picture.proofs.PlacedTexts.{underway_more, underway_all}
use Rattle.record_picture.proofs.frames.put_frames.Goals as goal

pub loop-worker-preserved : goal.loop-worker-preserved
loop-worker-preserved c =
    let l = c.loop-worker in
    rw c.in_ok-put_lane_frames.ensures
    (underway_more (lane_frames c.args.before.now c.args.lines.now) c.args.script.now.workers c.args.out.now.items l.out.items l.worker-index l.lane c.worker-item.result (rw c.as_slice-worker-items.ensures at c.loop-worker-test.true) (rw c.as_slice-worker-items.ensures at c.worker-item.is) l.invariant)

pub returns : goal.returns
returns c =
    let l = c.loop-worker in
    underway_all (lane_frames c.args.before.now c.args.lines.now) c.args.script.now.workers c.args.out.now.items l.out.items l.worker-index l.lane (rw c.as_slice-worker-items.ensures at c.loop-worker-test.false) l.invariant
