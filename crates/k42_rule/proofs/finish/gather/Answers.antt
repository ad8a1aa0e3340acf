use Rattle.std.proofs.Common.{◌≡◌, List, length, subst, ap, ◌∙◌, arith}
use Rattle.std.specs.List.{slice_get}
use Rattle.k42_rule.specs.Finishing.{IsGathering}
use Rattle.k42_board.specs.Plan.{layouts_on}
use Rattle.k42_board.specs.Seen.{PassSeen}
use Rattle.k42_board.specs.Steps.{Seated}
use Rattle.k42_board.specs.Views.{pass_in}
use Rattle.k42_rule.proofs.Gathering.{joins_pass, gathers_more}
use Rattle.k42_rule.proofs.finish.gather.Goals as goal

pub join_seat-requires : goal.join_seat-requires
join_seat-requires g c =
    let h = c.loop-pass.invariant in let own = c.pass.inside.seat.me in let mirrors = c.pass.invariant.0 in let key = c.args.board.now.shared.key in
    let F = layouts_on g.L.Kind.object g.L.Layout.shapes g.L.Layout.tag_of g.L.Layout.ways g.L.Layout.whole g.L.Layout.serves g.L.Layout.admitted g.L.Layout.act_of key.procs key.callers.items in (
      h.ours ∙ c.requires.ours.0,
      ap (λ (p : PassSeen _ _ _). p.table) c.pass.view_is ∙ h.theirs 0 c.in-Some.pass (ap (λ (l : List (PassSeen _ _ _)). slice_get l 0) c.in-Some.ensures.steps.0),
      ap (λ (m : Seated _ _ _). m.1) mirrors.seat,
      (let wide = c.requires.ours.1 in omega (arith, wide)),
      joins_pass F key.layouts.items (length key.callers.items) _ _ c.loop-pass.seat.me own h.crew mirrors.seat,
    )

pub loop-pass-preserved : goal.loop-pass-preserved
loop-pass-preserved g c =
    let steps = c.in-Some.ensures.steps.0 in let mirrors = c.pass.invariant.0 in let own = c.pass.inside.seat.me in
    let same : pass_in own.0 ≡ c.in-Some.pass.view = ap (λ (p : PassSeen _ _ _). p.view) c.pass.view_is in
    let h = subst (λ (l : List (PassSeen _ _ _)). IsGathering c.args.board.now.shared.table_id c.args.seat.now c.loop-pass.seat c.args.passes.items l) steps c.loop-pass.invariant in
    gathers_more _ _ c.loop-pass.seat c.join_seat.new.seat c.args.passes.items c.next.new.self.rest.items c.in-Some.pass own mirrors.seat same h c.join_seat.ensures
