use Rattle.std.proofs.Common.{◌≤◌, vec_len, vec_capacity}
use Rattle.k42_board.specs.Plan.{layouts_on}
use Rattle.k42_runtime.proofs.CallTaken.{IsTakingRow}
use Rattle.k42_runtime.proofs.cells.take_row.Given as goal

abbrev pub invariant-loop-place : goal.invariant-loop-place
invariant-loop-place g l =
    (l.place ≤ l.procs)
    × IsTakingRow (layouts_on g.L.Kind.object g.L.Layout.shapes g.L.Layout.tag_of g.L.Layout.ways g.L.Layout.whole g.L.Layout.serves g.L.Layout.admitted g.L.Layout.act_of l.sys.procs l.sys.callers) l.sys.layouts l.object l.row l.place l.initial.pass l.pass l.cells.items
    (vec_len l.cells) (vec_capacity l.initial.cells) (vec_capacity l.cells)
