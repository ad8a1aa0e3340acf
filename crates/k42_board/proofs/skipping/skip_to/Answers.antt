use Rattle.std.proofs.Common.{length, ap, arith}
use Rattle.k42_board.specs.Plan.{layouts_on}
use Rattle.k42_board.specs.Skipping.{stamp_in}
use Rattle.k42_board.specs.Steps.{Seated}
use Rattle.k42_board.specs.Views.{pass_in}
use Rattle.k42_board.proofs.Skips.{skip_joins}
use Rattle.k42_board.proofs.skipping.skip_to.Goals as goal

pub join_seat-requires : goal.join_seat-requires
join_seat-requires g c =
    let key = c.args.board.now.shared.key in let me = c.args.seat.now.me in let told = c.args.other.me in
    let F = layouts_on g.L.Kind.object g.L.Layout.shapes g.L.Layout.tag_of g.L.Layout.ways g.L.Layout.whole g.L.Layout.serves g.L.Layout.admitted g.L.Layout.act_of key.procs key.callers.items in (
      c.requires.here.ours,
      c.requires.theirs,
      ap (λ (m : Seated _ _ _). m.1) c.requires.told,
      (let wide = c.requires.here.many in omega (arith, wide)),
      skip_joins F c.requires.here.laws key.layouts.items (length key.callers.items) c.args.seat.now.id c.args.other.id (stamp_in told.0) (pass_in me.0) me.0 told.0
          (ap (λ (m : Seated _ _ _). m.0) c.requires.here.alone) (ap (λ (m : Seated _ _ _). m.0) c.requires.told),
    )
