use Rattle.std.proofs.Common.{take}
use Rattle.record_text.specs.Referee.Doers.{Knows}
use Rattle.record_text.proofs.judging.doers.Doers.of.Given as goal

abbrev pub invariant-loop-line : goal.invariant-loop-line
invariant-loop-line l = Knows (take l.line-index l.lines) l.known
