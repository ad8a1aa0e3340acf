use Rattle.std.specs.Prelude.{map}
use Rattle.crossbeam_queue.specs.SegTies.{IsSegPassOf}
use Rattle.k42_board.specs.Queueing.{IsTied}
use Rattle.k42_board.specs.Starting.{IsDealing}
use Rattle.k42_rule.proofs.start.deal_all.Given as goal

abbrev pub invariant-loop-number : goal.invariant-loop-number
invariant-loop-number g l = IsDealing l.board.shared.table_id l.line l.keep l.procs (map g.L.Layout.shapes l.board.shared.key.layouts.items) l.homes l.number l.seat.table_id l.seat.me l.passes.items
    × IsSegPassOf l.line l.root × IsTied l.board.shared.table_id l.root.me.view.client
