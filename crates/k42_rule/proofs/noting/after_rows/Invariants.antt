use Rattle.std.proofs.Common.{◌≡◌, ◌≤◌, length, drop}
use Rattle.k42_board.specs.Noting.{after_rows}
use Rattle.k42_rule.proofs.noting.after_rows.Given as goal

abbrev pub invariant-loop-at : goal.invariant-loop-at
invariant-loop-at l = (l.note ≡ after_rows (drop l.at l.rows) l.object) × (l.at ≤ length l.rows)

abbrev pub decreases-loop-at : goal.decreases-loop-at
decreases-loop-at l = l.at
