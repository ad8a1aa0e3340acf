use Rattle.std.proofs.Common.{◌≡◌, ◌<◌, ℕ, List, refl, sym, ap, ◌∙◌, subst}
use Rattle.std.specs.Prelude.{Option, Some, None, IsSomeAnd}
use Rattle.turn_core.specs.Names.{names}
use Rattle.k42_stamp.specs.Layouts.{Layouts}
use Rattle.k42_board.specs.Cells.{cells_noted}
use Rattle.k42_board.specs.Taking.{CELLS, MayPut}
use Rattle.k42_board.specs.declared.cell.Content.{Content}
use Rattle.k42_board.specs.declared.view.PassView.{PassView}
use Rattle.k42_board.proofs.CellsAllowed.{held_one, held_is}
use Rattle.k42_rule.proofs.PutBack.{may_put}
use Rattle.k42_mediator.specs.Taken.{MayPutBack}
use Rattle.k42_mediator.proofs.GivenBack.{cell_in, comes_back}
use Rattle.k42_mediator.proofs.Remaining.{none_remains}
use Rattle.k42_mediator.proofs.SamePass.{same_twice}
use Rattle.k42_board.specs.Plan.{layouts_on}
use Rattle.k42_runtime.proofs.cells.give_held.Goals as goal

may_put_held : {S L P O R : Type 0} (F : Layouts S L P O R) (declared : List L) (id n : ℕ) (v : PassView P O R) (held : Option (Content P O R))
    → IsSomeAnd held (λ cell. cell.number ≡ n) → IsSomeAnd held (MayPutBack F declared id v) → IsSomeAnd held (λ cell. MayPut F declared id n cell v)
may_put_held F declared id n v None number ready = absurd ready
may_put_held F declared id n v (Some cell) number ready =
    subst (λ m. MayPut F declared id m cell v) number
    (may_put F declared id cell.number v cell refl ready.cell
    (record { noted = ready.held.noted; history = ready.held.history; closed = ready.held.closed })
    (ready.due v (record { visitor = refl; last = refl; handed = refl }) ready.held.noted refl))

pub put_from-requires-clause-may : goal.put_from-requires-clause-may
put_from-requires-clause-may g c κs within =
    may_put_held (layouts_on g.L.Kind.object g.L.Layout.shapes g.L.Layout.tag_of g.L.Layout.ways g.L.Layout.whole g.L.Layout.serves g.L.Layout.admitted g.L.Layout.act_of c.args.sys.now.procs c.args.sys.now.callers) c.args.sys.now.layouts c.args.pass.now.seat c.args.number c.args.pass.now.view
    c.args.held.now c.requires.number c.requires.ready

pub unlock-requires-after_bounds : goal.unlock-requires-after_bounds
unlock-requires-after_bounds g c κs within =
    let v = c.args.pass.now.view in let n : ℕ = c.args.number in let one = held_one c.args.held.now c.requires.ready in
    let put = held_is _ c.args.held.now one.0 one.1 c.put_from.ensures.put in
    let number : one.0.number ≡ n = subst (λ held. IsSomeAnd held (λ cell. cell.number ≡ n)) one.1 c.requires.number in
    record {
      ours = put.same.table ∙ c.requires.ours;
      may = record {
        cell = subst (λ m. m < CELLS) number one.2.cell;
        held = ap (λ (w : PassView _ _ _). names w.taker.held n) put.back.knows ∙ ap (names v.taker.held) (sym number) ∙ one.2.holds;
        home = ap (λ (w : PassView _ _ _). names (cells_noted w.notes) n) put.back.knows ∙ none_remains cell_in n v.notes;
      };
    }

pub returns-clause-same : goal.returns-clause-same
returns-clause-same g c =
    let one = held_one c.args.held.now c.requires.ready in
    same_twice _ _ _ (held_is _ c.args.held.now one.0 one.1 c.put_from.ensures.put).same (c.unlock.ensures 0).same

pub returns-clause-comes : goal.returns-clause-comes
returns-clause-comes g c =
    let one = held_one c.args.held.now c.requires.ready in
    comes_back _ _ c.args.pass.now.view _ _ (held_is _ c.args.held.now one.0 one.1 c.put_from.ensures.put).back.knows (c.unlock.ensures 0).takes.knows
