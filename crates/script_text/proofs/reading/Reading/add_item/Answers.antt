use Rattle.std.proofs.Common.{◌+◌, true, false, refl, arith}
use Rattle.script_text.specs.declared.script.Item.TheVariants.{Begin, End, Line}
use Rattle.script_text.proofs.ReaderSteps.{shows_pushed}
use Rattle.script_text.proofs.reading.Reading.add_item.Goals as goal

pub returns-in-Begin : goal.returns-in-Begin
returns-in-Begin c =
    let r = c.args.self.now in
    shows_pushed c.push.result r Begin c.args.item.now c.push.new.self true r.asked c.in-Begin.is c.requires.kept c.requires.worker refl (omega arith) c.requires.kept.few c.push.ensures.ok

pub returns-in-End : goal.returns-in-End
returns-in-End c =
    let r = c.args.self.now in
    shows_pushed c.push-in-End.result r End c.args.item.now c.push-in-End.new.self false r.asked c.in-End.is c.requires.kept c.requires.worker refl (omega arith) c.requires.kept.few c.push-in-End.ensures.ok

pub returns-in-Line : goal.returns-in-Line
returns-in-Line c =
    let r = c.args.self.now in
    let few = rw c.in-Line.is at c.requires.few in
    shows_pushed c.push-in-Line.result r (Line c.in-Line.line) c.args.item.now c.push-in-Line.new.self r.in_block (r.asked + 1) c.in-Line.is c.requires.kept c.requires.worker refl (omega arith) few c.push-in-Line.ensures.ok
