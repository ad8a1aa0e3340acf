use Rattle.std.proofs.Common.{◌≡◌, true, length}
use Rattle.k42_board.specs.Seen.{IsPassOf, IsSamePass}
use Rattle.k42_quiesce.specs.Gracing.{GoesOn}
use Rattle.k42_quiesce.proofs.PastFlips.{is_past_flips, left_of}
use Rattle.k42_quiesce.proofs.looking.look_on.Given as goal

abbrev pub invariant-loop-proc : goal.invariant-loop-proc
invariant-loop-proc g l =
    IsPassOf l.sys l.pass × IsSamePass l.initial.pass l.pass × GoesOn l.initial.pass.view l.pass.view × (is_past_flips l.pass.view.turn.grace ≡ true)

abbrev pub decreases-loop-proc : goal.decreases-loop-proc
decreases-loop-proc g l = left_of l.pass.view.turn.grace (length l.pass.view.turn.waits)
