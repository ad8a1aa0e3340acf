use Rattle.std.proofs.Common.{All, take}
use Rattle.record_text.specs.Spelling.{HasSpelling}
use Rattle.record_tests.proofs.tests.conditions.all_spelled.Given as goal

abbrev pub invariant-loop-line : goal.invariant-loop-line
invariant-loop-line l = All (HasSpelling l.script) (take l.line-index l.lines)
