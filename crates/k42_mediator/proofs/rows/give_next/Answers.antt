use Rattle.std.proofs.Common.{◌<◌, ℕ, [], ◌∷◌, refl, sym, ap, ◌∙◌, subst}
use Rattle.turn_core.specs.Names.{names}
use Rattle.k42_board.specs.Cells.{cells_noted}
use Rattle.k42_board.specs.Log.{ComesTo}
use Rattle.k42_board.specs.Plan.{layouts_on}
use Rattle.k42_board.specs.Taking.{CELLS, MayPut}
use Rattle.k42_board.specs.declared.view.PassView.{PassView}
use Rattle.k42_rule.proofs.PutBack.{may_put}
use Rattle.k42_mediator.specs.Taken.{released}
use Rattle.k42_mediator.proofs.GivenBack.{cell_in, comes_back}
use Rattle.k42_mediator.proofs.Remaining.{none_remains}
use Rattle.k42_mediator.proofs.SamePass.{same_twice}
use Rattle.k42_mediator.proofs.rows.give_next.Goals as goal

pub put-requires-clause-may : goal.put-requires-clause-may
put-requires-clause-may g c κs within =
    let F = layouts_on g.L.Kind.object g.L.Layout.shapes g.L.Layout.tag_of g.L.Layout.ways g.L.Layout.whole g.L.Layout.serves g.L.Layout.admitted g.L.Layout.act_of c.args.sys.now.procs c.args.sys.now.callers in
    let v = c.args.pass.now.view in let cell = c.args.cell in let ready = c.requires.ready in
    subst (λ n. MayPut F c.args.sys.now.layouts c.args.pass.now.seat n cell v) (sym c.number-number.ensures)
    (may_put F c.args.sys.now.layouts c.args.pass.now.seat cell.number v cell refl ready.cell
    (record { noted = ready.held.noted; history = ready.held.history; closed = ready.held.closed })
    (ready.due v (record { visitor = refl; last = refl; handed = refl }) ready.held.noted refl))

pub unlock-requires-after_bounds : goal.unlock-requires-after_bounds
unlock-requires-after_bounds g c κs within =
    let v = c.args.pass.now.view in let n : ℕ = c.number-number.result in let ready = c.requires.ready in let knows = c.put.ensures.back.knows in
    record {
      ours = c.put.ensures.same.table ∙ c.requires.ours;
      may = record {
        cell = subst (λ m. m < CELLS) (sym c.number-number.ensures) ready.cell;
        held = ap (λ (w : PassView _ _ _). names w.taker.held n) knows ∙ ap (names v.taker.held) c.number-number.ensures ∙ ready.holds;
        home = ap (λ (w : PassView _ _ _). names (cells_noted w.notes) n) knows ∙ none_remains cell_in n v.notes;
      };
    }

pub returns-clause-same : goal.returns-clause-same
returns-clause-same g c = same_twice _ _ _ c.put.ensures.same (c.unlock.ensures 0).same

pub returns-clause-comes : goal.returns-clause-comes
returns-clause-comes g c =
    let v = c.args.pass.now.view in
    subst (λ (m : ℕ). ComesTo v (released (m ∷ []) v) c.unlock.new.pass.view) c.number-number.ensures
    (comes_back _ _ v _ _ c.put.ensures.back.knows (c.unlock.ensures 0).takes.knows)
