use Rattle.std.proofs.Common.{◌≤◌, vec_len, vec_capacity}
use Rattle.k42_board.specs.Plan.{layouts_on}
use Rattle.k42_mediator.proofs.RowTaken.{IsTaking}
use Rattle.k42_mediator.proofs.rows.take_row.Given as goal

abbrev pub invariant-loop-place : goal.invariant-loop-place
invariant-loop-place g l =
    (l.place ≤ l.procs)
    × IsTaking (layouts_on g.L.Kind.object g.L.Layout.shapes g.L.Layout.tag_of g.L.Layout.ways g.L.Layout.whole g.L.Layout.serves g.L.Layout.admitted g.L.Layout.act_of l.sys.procs l.sys.callers)
    l.sys.layouts l.object l.row l.place l.initial.pass l.pass l.initial.cells.items l.cells.items
    (vec_len l.initial.cells) (vec_len l.cells) (vec_capacity l.initial.cells) (vec_capacity l.cells)
