use Rattle.std.proofs.Common.{ℕ, length, arith, ap, ◌∙◌}
use mathlib.Core.Option.{none}
use Rattle.atomic_table.specs.Table.{step}
use Rattle.k42_board.specs.Queueing.{AreGranted}
use Rattle.k42_board.specs.Plan.{layouts_on}
use Rattle.k42_board.specs.Seen.{IsSeatOf}
use Rattle.k42_board.specs.Steps.{Seated, on_pass}
use Rattle.k42_board.specs.Views.{pass_in}
use Rattle.k42_board.proofs.Moves.{seat_stays_allowed}
use Rattle.k42_board.proofs.Naming.{stays_so, finds_granted, splits_newest}
use Rattle.k42_board.proofs.queueing.name_newest.Goals as goal

pub load-requires : goal.load-requires
load-requires g c =
    let key = c.args.board.now.shared.key in let slots : ℕ = c.args.board.now.shared.table_id.slots in
    let F = layouts_on g.L.Kind.object g.L.Layout.shapes g.L.Layout.tag_of g.L.Layout.ways g.L.Layout.whole g.L.Layout.serves g.L.Layout.admitted g.L.Layout.act_of key.procs key.callers.items in (
      c.requires.ours.0,
      (let wide = c.requires.ours.1 in omega (arith, wide)),
      seat_stays_allowed (stays_so F key.layouts.items _ _) AreGranted (finds_granted F key.layouts.items _ _) c.args.seat.now.me c.requires.pass slots (step slots 0 0 0 none),
    )

pub split_seat-requires : goal.split_seat-requires
split_seat-requires g c =
    let key = c.args.board.now.shared.key in let before = c.args.seat.now.me in
    let F = layouts_on g.L.Kind.object g.L.Layout.shapes g.L.Layout.tag_of g.L.Layout.ways g.L.Layout.whole g.L.Layout.serves g.L.Layout.admitted g.L.Layout.act_of key.procs key.callers.items in
    let now : IsSeatOf c.load.new.seat.me (pass_in before.0) =
    c.load.ensures.2.0 ∙ ap (λ (m : Seated _ _ _). (on_pass (λ v. v) m.0, m.1)) c.requires.pass in (
      c.load.ensures.0 ∙ c.requires.ours.0,
      (let wide = c.requires.ours.1 in omega (arith, wide)),
      splits_newest F key.layouts.items (length key.callers.items) _ (pass_in before.0) c.load.new.seat.me now c.requires.holds,
    )
