use Rattle.std.proofs.Common.{vec_len}
use Rattle.k42_mediator.proofs.RowGiven.{IsGiving}
use Rattle.k42_board.specs.Plan.{layouts_on}
use Rattle.k42_runtime.proofs.cells.give_back.Given as goal

abbrev pub invariant-loop-cell : goal.invariant-loop-cell
invariant-loop-cell g l = IsGiving (layouts_on g.L.Kind.object g.L.Layout.shapes g.L.Layout.tag_of g.L.Layout.ways g.L.Layout.whole g.L.Layout.serves g.L.Layout.admitted g.L.Layout.act_of l.sys.procs l.sys.callers) l.sys.layouts l.initial.pass l.pass l.initial.cells.items l.cells.items

abbrev pub decreases-loop-cell : goal.decreases-loop-cell
decreases-loop-cell g l = vec_len l.cells
