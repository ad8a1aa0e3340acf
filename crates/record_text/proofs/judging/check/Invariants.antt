use Rattle.std.proofs.Common.{◌<◌, ℕ, take}
use Rattle.record_text.specs.Referee.Pasts.{IsPast}
use Rattle.record_text.specs.Rules.{Rule, KeepsAt}
use Rattle.record_text.proofs.judging.check.Given as goal

abbrev pub invariant-loop-place : goal.invariant-loop-place
invariant-loop-place l = record {
  past : IsPast l.script (take l.place l.lines) l.past;
  kept : (earlier : ℕ) → earlier < l.place → (rule : Rule) → KeepsAt l.script l.lines earlier rule;
}
