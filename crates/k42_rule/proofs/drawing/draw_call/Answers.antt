use Rattle.std.proofs.Common.{List, subst}
use Rattle.k42_board.specs.Drawing.{AreTold}
use Rattle.k42_board.specs.declared.cell.Content.{Content}
use Rattle.k42_board.proofs.CellsTold.{told_back}
use Rattle.k42_rule.proofs.drawing.draw_call.Goals as goal

pub draw_at-requires-clause-agree : goal.draw_at-requires-clause-agree
draw_at-requires-clause-agree g c κs within =
    let met = g.met.L.Layout g.world.𝓛 g.world.𝓜 g.world.𝓡 ((λ s x. x), (λ x. x), (λ x. x), λ x. x) in
    λ layout other same tag. (met.agrees layout other same tag).ways

pub returns-clause-told : goal.returns-clause-told
returns-clause-told g c =
    told_back c.draw_at.new.pass.view.notes c.args.cells.now.items c.draw_at.new.cells c.args.cells.now.len c.args.cells.now.ok.0
    (subst (λ (xs : List (Content _ _ _)). AreTold c.draw_at.new.pass.view.notes xs c.draw_at.new.cells) c.as_mut_slice.ensures.value c.draw_at.ensures.told)

pub returns-clause-drawn : goal.returns-clause-drawn
returns-clause-drawn g c = rw (← c.as_mut_slice.ensures.value) c.draw_at.ensures.drawn
