use Rattle.std.proofs.Common.{ℕ, length, arith, ap, ◌∙◌}
use mathlib.Core.Option.{none}
use Rattle.atomic_table.specs.Table.{step}
use Rattle.k42_board.specs.Queueing.{HoldsFew, row_named, takes_in, with_newest}
use Rattle.k42_board.specs.Plan.{layouts_on}
use Rattle.k42_board.specs.Seen.{IsSeatOf}
use Rattle.k42_board.specs.Steps.{Seated}
use Rattle.k42_board.specs.Views.{pass_in}
use Rattle.k42_board.proofs.FewRows.{finds_few}
use Rattle.k42_board.proofs.Moves.{seat_stays_allowed}
use Rattle.k42_board.proofs.Naming.{joins_in, stays_so}
use Rattle.k42_board.proofs.queueing.take_in.Goals as goal

pub join_seat-requires : goal.join_seat-requires
join_seat-requires g c =
    let key = c.args.board.now.shared.key in
    let F = layouts_on g.L.Kind.object g.L.Layout.shapes g.L.Layout.tag_of g.L.Layout.ways g.L.Layout.whole g.L.Layout.serves g.L.Layout.admitted g.L.Layout.act_of key.procs key.callers.items in (
      c.requires.ours.0,
      c.requires.row.0,
      ap (λ (m : Seated _ _ _). m.1) c.requires.row.1,
      (let wide = c.requires.ours.1 in omega (arith, wide)),
      joins_in F key.layouts.items (length key.callers.items) _ (pass_in c.args.seat.now.me.0) c.args.seat.now.me c.requires.pass _ (row_named c.args.named.me.0) c.args.named.me c.requires.row.1
          c.requires.few,
    )

pub load-requires : goal.load-requires
load-requires g c =
    let key = c.args.board.now.shared.key in let slots : ℕ = c.args.board.now.shared.table_id.slots in
    let F = layouts_on g.L.Kind.object g.L.Layout.shapes g.L.Layout.tag_of g.L.Layout.ways g.L.Layout.whole g.L.Layout.serves g.L.Layout.admitted g.L.Layout.act_of key.procs key.callers.items in
    let now : IsSeatOf c.join_seat.new.seat.me (with_newest (row_named c.args.named.me.0) (pass_in c.args.seat.now.me.0)) =
    c.join_seat.ensures.2 ∙ (λ i. (takes_in (c.requires.pass i).0 (c.requires.row.1 i).0, (c.requires.pass i).1)) in (
      c.join_seat.ensures.0 ∙ c.requires.ours.0,
      (let wide = c.requires.ours.1 in omega (arith, wide)),
      seat_stays_allowed (stays_so F key.layouts.items _ _) HoldsFew (finds_few F key.layouts.items _ _) c.join_seat.new.seat.me now slots (step slots 0 0 0 none),
    )
