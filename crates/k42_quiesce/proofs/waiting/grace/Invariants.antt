use Rattle.k42_board.specs.Plan.{layouts_on}
use Rattle.k42_board.specs.Seen.{IsPassOf, IsSamePass}
use Rattle.k42_quiesce.proofs.Tries.{IsTried}
use Rattle.k42_quiesce.proofs.waiting.grace.Given as goal

abbrev pub invariant-loop : goal.invariant-loop
invariant-loop g l =
    IsPassOf l.sys l.pass × IsSamePass l.initial.pass l.pass × IsTried
    (layouts_on g.L.Kind.object g.L.Layout.shapes g.L.Layout.tag_of g.L.Layout.ways g.L.Layout.whole g.L.Layout.serves g.L.Layout.admitted g.L.Layout.act_of l.sys.procs l.sys.callers)
    l.sys.layouts l.initial.pass.seat l.initial.pass.view l.pass.view l.grace
