use Rattle.record_text.proofs.Referee.Sight.{IsBehind}
use Rattle.record_text.proofs.judging.later.least_later.Given as goal

abbrev pub invariant-loop-place : goal.invariant-loop-place
invariant-loop-place l = IsBehind l.lines l.place l.marks l.later.items
