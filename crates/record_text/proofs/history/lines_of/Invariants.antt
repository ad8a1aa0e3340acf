use Rattle.std.proofs.Common.{◌≡◌, take}
use Rattle.std.specs.Prelude.{map}
use Rattle.record_text.specs.Histories.{line_of}
use Rattle.record_text.proofs.history.lines_of.Given as goal

abbrev pub invariant-loop-entry : goal.invariant-loop-entry
invariant-loop-entry l = l.lines.items ≡ map (line_of l.script l.version) (take l.entry-index l.entries.items)
