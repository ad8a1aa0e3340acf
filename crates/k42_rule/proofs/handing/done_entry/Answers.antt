use Rattle.std.proofs.Common.{◌≡◌, ◌+◌, cond, None, drop, sym, ap, ◌∙◌}
use Rattle.std.specs.Prelude.{max}
use Rattle.phase_core.specs.Stages.{object_named}
use Rattle.k42_joined.specs.Drawing.{first_cell}
use Rattle.k42_board.specs.Drawing.{numbers_of}
use Rattle.k42_board.specs.Plan.{layouts_on}
use Rattle.k42_board.specs.Seen.{SysSeen, PassSeen, Own, own_in}
use Rattle.k42_board.specs.Values.{incarnation_in}
use Rattle.k42_board.specs.Views.{word_begun}
use Rattle.k42_rule.proofs.HandedCells.{stamp_is}
use Rattle.k42_rule.proofs.handing.done_entry.Goals as goal

pub returns-clause-is : goal.returns-clause-is
returns-clause-is g c =
    let v = c.args.pass.now.view in
    let sys = c.args.sys.now in
    let cells = c.args.cells.now in
    let act = g.L.Layout.act_of c.args.to.now in
    let met = g.met.L.Layout g.world.𝓛 g.world.𝓜 g.world.𝓡 ((λ s x. x), (λ x. x), (λ x. x), λ x. x) in
    let F = layouts_on g.L.Kind.object g.L.Layout.shapes g.L.Layout.tag_of g.L.Layout.ways g.L.Layout.whole g.L.Layout.serves g.L.Layout.admitted g.L.Layout.act_of sys.procs sys.callers in
    let own = c.pass.invariant.0.own_is ∙ ap (λ (p : PassSeen _ _ _). own_in p.view) c.pass.view_is in
    let procs : c.sys.inside.procs ≡ sys.procs = c.sys.invariant.3 ∙ ap (λ (s : SysSeen _). s.procs) c.sys.view_is in
    λ j. record {
      stamp =
          (c.stamp_after-stamp.ensures
          ∙ (λ k. max (ap (λ (o : Own). o.clock) own k) (c.last_at.ensures.told k) + 1)
          ∙ stamp_is F sys.layouts cells c.args.to.now c.args.answer v c.requires.may) j;
      caller = ap (λ (o : Own). o.number) own j;
      index = ap (λ (o : Own). o.drawn) own j;
      object = (c.object_at.ensures ∙ ap (λ (o : Own). object_named o.swap) own) j;
      incarnation = (c.incarnation_at.ensures ∙ ap (λ (o : Own). incarnation_in (word_begun o.last)) own) j;
      cell = (c.number_at.ensures.is ∙ ap (λ n. first_cell (numbers_of (drop n cells))) procs) j;
      act = c.act.ensures j;
      answer = c.args.answer;
      proc = ap (λ (o : Own). o.turn.proc) own j;
      generation = ap (λ b. cond b v.turn.active None) (sym (met.asks c.args.to.now)) j;
    }
