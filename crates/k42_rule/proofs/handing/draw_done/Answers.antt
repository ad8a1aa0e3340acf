use Rattle.std.proofs.Common.{List, subst}
use Rattle.k42_board.specs.Drawing.{AreTold}
use Rattle.k42_board.specs.declared.cell.Content.{Content}
use Rattle.k42_board.proofs.CellsTold.{told_back}
use Rattle.k42_rule.proofs.handing.draw_done.Goals as goal

pub returns-clause-told : goal.returns-clause-told
returns-clause-told g c =
    told_back c.hand_at.new.pass.view.notes c.args.cells.now.items c.hand_at.new.cells c.args.cells.now.len c.args.cells.now.ok.0
    (subst (λ (xs : List (Content _ _ _)). AreTold c.hand_at.new.pass.view.notes xs c.hand_at.new.cells) c.as_mut_slice.ensures.value c.hand_at.ensures.told)

pub returns-clause-drawn : goal.returns-clause-drawn
returns-clause-drawn g c = rw (← c.as_mut_slice.ensures.value) c.hand_at.ensures.drawn
