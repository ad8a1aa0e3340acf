use Rattle.std.proofs.Common.{length}
use Rattle.k42_board.specs.Seen.{IsPassOf}
use Rattle.k42_quiesce.specs.Collecting.{HasHandedOver}
use Rattle.k42_quiesce.proofs.collecting.hand_over.Given as goal

abbrev pub invariant-loop-pass : goal.invariant-loop-pass
invariant-loop-pass g l =
    IsPassOf l.sys l.pass × HasHandedOver l.initial.pass l.pass

abbrev pub decreases-loop-pass : goal.decreases-loop-pass
decreases-loop-pass g l = length l.pass.view.rows
