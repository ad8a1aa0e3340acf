use Rattle.record_picture.specs.Boxes.{box_text}
use Rattle.record_picture.proofs.PlacedTexts.{IsUnderway}
use Rattle.record_picture.proofs.boxes.put_boxes.Given as goal

abbrev pub invariant-loop-line : goal.invariant-loop-line
invariant-loop-line l = IsUnderway (box_text l.script l.before) l.lines l.initial.out.items l.out.items l.line-index l.column
