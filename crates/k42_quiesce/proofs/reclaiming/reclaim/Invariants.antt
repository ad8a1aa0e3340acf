use Rattle.std.proofs.Common.{◌≤◌}
use Rattle.k42_board.specs.Seen.{IsPassOf, IsSamePass}
use Rattle.k42_quiesce.proofs.SweptObjects.{HasSwept}
use Rattle.k42_quiesce.proofs.reclaiming.reclaim.Given as goal

abbrev pub invariant-loop-object : goal.invariant-loop-object
invariant-loop-object g l =
    IsPassOf l.sys l.pass × IsSamePass l.initial.pass l.pass × HasSwept l.sys.procs l.object l.count l.initial.pass.view l.pass.view
    × (l.count ≤ l.object)
