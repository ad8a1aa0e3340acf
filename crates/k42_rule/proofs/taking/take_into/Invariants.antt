use Rattle.k42_board.specs.Plan.{layouts_on}
use Rattle.k42_board.specs.Taking.{AreRowsNoted}
use Rattle.k42_rule.proofs.taking.take_into.Given as goal

abbrev pub ghosts-take_cell : goal.ghosts-take_cell
ghosts-take_cell g a = record {
  known = AreRowsNoted
      (layouts_on g.L.Kind.object g.L.Layout.shapes g.L.Layout.tag_of g.L.Layout.ways g.L.Layout.whole g.L.Layout.serves g.L.Layout.admitted g.L.Layout.act_of a.board.now.shared.key.procs a.board.now.shared.key.callers.items)
      a.board.now.shared.key.layouts.items;
}
