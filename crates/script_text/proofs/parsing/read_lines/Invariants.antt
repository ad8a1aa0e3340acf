use Rattle.std.proofs.Common.{length}
use Rattle.script_text.proofs.Underway.{IsUnderway}
use Rattle.script_text.proofs.parsing.read_lines.Given as goal

abbrev pub invariant-loop-rest : goal.invariant-loop-rest
invariant-loop-rest l = IsUnderway l.bytes l.rest l.line l.reading

abbrev pub decreases-loop-rest : goal.decreases-loop-rest
decreases-loop-rest l = length l.rest
