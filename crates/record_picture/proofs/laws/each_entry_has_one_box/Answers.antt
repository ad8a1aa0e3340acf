use Rattle.record_picture.specs.Boxes.{box_text}
use Rattle.record_picture.proofs.OneEach.{one-each}
use Rattle.record_picture.proofs.laws.each_entry_has_one_box.Goals as goal

pub returns : goal.returns
returns c script before lines line = one-each (box_text script before) lines line
