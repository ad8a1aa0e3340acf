use Rattle.k42_board.specs.Drawing.{draws_at, entry_at}
use Rattle.k42_board.specs.Lifted.{cell_listed, slot_in}
use Rattle.k42_board.specs.Plan.{layouts_on}
use Rattle.k42_board.specs.Taking.{AreRowsNoted}
use Rattle.k42_board.specs.Views.{pass_in}
use Rattle.k42_board.proofs.calling.call_cell.Given as goal

abbrev pub ghosts-lift_cell : goal.ghosts-lift_cell
ghosts-lift_cell g a = record {
  known = AreRowsNoted
      (layouts_on g.L.Kind.object g.L.Layout.shapes g.L.Layout.tag_of g.L.Layout.ways g.L.Layout.whole g.L.Layout.serves g.L.Layout.admitted g.L.Layout.act_of a.board.now.shared.key.procs a.board.now.shared.key.callers.items)
      a.board.now.shared.key.layouts.items;
}

abbrev pub ghosts-draw_lifted : goal.ghosts-draw_lifted
ghosts-draw_lifted g a = record { becomes = draws_at (cell_listed (slot_in a.seat.now.me.1)) (entry_at (cell_listed (slot_in a.seat.now.me.1)) a.op.now a.reply.now (pass_in a.seat.now.me.0)) }
