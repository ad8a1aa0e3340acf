use Rattle.std.proofs.Common.{ap, arith}
use Rattle.k42_board.specs.Plan.{layouts_on}
use Rattle.k42_board.specs.Steps.{Seated}
use Rattle.k42_board.specs.Views.{pass_in}
use Rattle.k42_board.proofs.CellsTold.{receipt_splits}
use Rattle.k42_board.proofs.receipts.tell_cell.Goals as goal

pub split_seat-own-requires : goal.split_seat-own-requires
split_seat-own-requires g c =
    let key = c.args.board.now.shared.key in let me = c.args.seat.now.me in
    let F = layouts_on g.L.Kind.object g.L.Layout.shapes g.L.Layout.tag_of g.L.Layout.ways g.L.Layout.whole g.L.Layout.serves g.L.Layout.admitted g.L.Layout.act_of key.procs key.callers.items in (
      c.requires.ours.0,
      (let wide = c.requires.ours.1 in omega (arith, wide)),
      receipt_splits F key.layouts.items c.args.seat.now.id (pass_in me.0) _ me.0 (ap (λ (m : Seated _ _ _). m.0) c.requires.seated),
    )
