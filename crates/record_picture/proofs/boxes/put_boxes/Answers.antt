use Rattle.record_picture.specs.Boxes.{box_text}
use Rattle.record_picture.proofs.PlacedTexts.{underway_more, underway_all}
use Rattle.record_picture.proofs.boxes.put_boxes.Goals as goal

pub loop-line-preserved : goal.loop-line-preserved
loop-line-preserved c =
    let l = c.loop-line in
    rw c.in_ok-put_box.ensures
    (underway_more (box_text c.args.script.now c.args.before) c.args.lines.now c.args.out.now.items l.out.items l.line-index l.column c.line-item.result c.loop-line-test.true c.line-item.is l.invariant)

pub returns : goal.returns
returns c =
    let l = c.loop-line in
    underway_all (box_text c.args.script.now c.args.before) c.args.lines.now c.args.out.now.items l.out.items l.line-index l.column c.loop-line-test.false l.invariant
