use Rattle.std.proofs.Common.{◌<◌, length, arith}
use Rattle.record_text.proofs.Printer.LineLookups.{lines-more}
use Rattle.record_text.proofs.history.lines_of.Goals as goal

pub loop-entry-preserved : goal.loop-entry-preserved
loop-entry-preserved c =
    let within : c.loop-entry.entry-index < length c.args.entries.now.items = omega arith in
    rw (c.in_ok-push.ensures.items, c.loop-entry.invariant, c.line_at.ensures, c.of-told_version.ensures, c.number_of-number.ensures, c.in_ok-numbers.ensures)
    (lines-more c.args.script.now c.args.version c.args.entries.now.items c.loop-entry.entry-index c.entry-item.result within (rw c.deref-entry-items.ensures.value at c.entry-item.is) c.requires.placed)
