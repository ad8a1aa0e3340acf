use Rattle.std.proofs.Common.{◌≡◌, ◌+◌, ◌≤◌, [], length}
use Rattle.script_text.specs.Lines.{lines_of}
use Rattle.record_text.specs.Reading.{entries_on}
use Rattle.record_text.specs.Spelling.{version_number}
use Rattle.record_text.proofs.reading.read_entries.Given as goal

abbrev pub invariant-loop-rest : goal.invariant-loop-rest
invariant-loop-rest l = record {
  reads : entries_on l.script (version_number l.version) l.lines.items (lines_of l.rest) ≡ entries_on l.script (version_number l.version) [] (lines_of l.bytes);
  few : length l.lines.items + length l.rest ≤ length l.bytes;
}

abbrev pub decreases-loop-rest : goal.decreases-loop-rest
decreases-loop-rest l = length l.rest
