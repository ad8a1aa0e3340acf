use Rattle.std.proofs.Common.{All, take}
use Rattle.record_text.specs.Spelling.{IsOfVersion}
use Rattle.record_tests.proofs.tests.conditions.all_of_version.Given as goal

abbrev pub invariant-loop-line : goal.invariant-loop-line
invariant-loop-line l = All (IsOfVersion l.version) (take l.line-index l.lines)
