use Rattle.std.proofs.Common.{All, take}
use Rattle.record_text.specs.Histories.{HasLine}
use Rattle.record_tests.proofs.tests.conditions.has_lines.Given as goal

abbrev pub invariant-loop-entry : goal.invariant-loop-entry
invariant-loop-entry g l = All (HasLine l.script) (take l.entry-index l.entries)
