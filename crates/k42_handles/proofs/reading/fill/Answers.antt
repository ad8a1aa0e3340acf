use Rattle.std.proofs.Common.{◌≡◌, ◌<◌, length, rules, ap, set}
use Rattle.std.specs.Prelude.{Some, slice_get}
use Rattle.k42_handles.proofs.ReadEntries.{reads_next}
use Rattle.k42_handles.proofs.reading.fill.Goals as goal

pub loop-read-preserved : goal.loop-read-preserved
loop-read-preserved c =
    let there : c.loop-read.read < length c.args.entries.now = search rules in
    let next : slice_get c.loop-read.reader 0 ≡ Some c.in-Some.entry = search rules in
    reads_next c.loop-read.read c.args.reader.now c.loop-read.reader c.next.new.self c.args.entries.now c.loop-read.entries _ c.in-Some.entry c.loop-read.invariant
    there next c.next.ensures.rest (ap (set c.loop-read.entries c.loop-read.read) c.plain_entry.ensures)
