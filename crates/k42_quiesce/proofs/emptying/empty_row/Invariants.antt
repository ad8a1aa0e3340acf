use Rattle.k42_board.specs.Seen.{IsPassOf, IsSamePass}
use Rattle.k42_quiesce.proofs.Emptied.{IsEmptiedTo}
use Rattle.k42_quiesce.proofs.emptying.empty_row.Given as goal

abbrev pub invariant-loop-place : goal.invariant-loop-place
invariant-loop-place g l =
    IsPassOf l.sys l.pass × IsSamePass l.initial.pass l.pass × IsEmptiedTo l.place l.object l.row l.initial.pass.view l.pass.view
