use Rattle.std.proofs.Common.{length, arith, ap}
use Rattle.k42_board.specs.Queueing.{row_named}
use Rattle.k42_board.specs.Plan.{layouts_on}
use Rattle.k42_board.specs.Steps.{Seated}
use Rattle.k42_board.specs.Views.{pass_in}
use Rattle.k42_board.proofs.Naming.{joins_back}
use Rattle.k42_board.proofs.queueing.take_back.Goals as goal

pub join_seat-requires : goal.join_seat-requires
join_seat-requires g c =
    let key = c.args.board.now.shared.key in
    let F = layouts_on g.L.Kind.object g.L.Layout.shapes g.L.Layout.tag_of g.L.Layout.ways g.L.Layout.whole g.L.Layout.serves g.L.Layout.admitted g.L.Layout.act_of key.procs key.callers.items in (
      c.requires.ours.0,
      c.requires.row.0,
      ap (λ (m : Seated _ _ _). m.1) c.requires.row.1,
      (let wide = c.requires.ours.1 in omega (arith, wide)),
      joins_back F key.layouts.items (length key.callers.items) _ (pass_in c.args.seat.now.me.0) c.args.seat.now.me c.requires.pass _ (row_named c.args.named.me.0) c.args.named.me c.requires.row.1
          1 (omega arith) c.requires.few (λ more. (c.requires.all c.if-granted.true, c.requires.granted c.if-granted.true)),
    )

pub join_seat-requires-else-granted : goal.join_seat-requires-else-granted
join_seat-requires-else-granted g c =
    let key = c.args.board.now.shared.key in
    let F = layouts_on g.L.Kind.object g.L.Layout.shapes g.L.Layout.tag_of g.L.Layout.ways g.L.Layout.whole g.L.Layout.serves g.L.Layout.admitted g.L.Layout.act_of key.procs key.callers.items in (
      c.requires.ours.0,
      c.requires.row.0,
      ap (λ (m : Seated _ _ _). m.1) c.requires.row.1,
      (let wide = c.requires.ours.1 in omega (arith, wide)),
      joins_back F key.layouts.items (length key.callers.items) _ (pass_in c.args.seat.now.me.0) c.args.seat.now.me c.requires.pass _ (row_named c.args.named.me.0) c.args.named.me c.requires.row.1
          0 (omega arith) c.requires.few (λ more. absurd (omega (arith, more))),
    )
