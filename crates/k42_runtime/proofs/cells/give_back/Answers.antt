use Rattle.std.proofs.Common.{◌≡◌, ℕ, List, [], sym, ap, ◌∙◌, subst}
use Rattle.k42_board.specs.Drawing.{numbers_of}
use Rattle.k42_board.specs.declared.cell.Content.{Content}
use Rattle.k42_mediator.specs.Taken.{released, MayPutBack}
use Rattle.k42_mediator.proofs.GivenBack.{released_none}
use Rattle.k42_mediator.proofs.RowGiven.{last_ready, gives_next, nothing_left}
use Rattle.k42_board.specs.Plan.{layouts_on}
use Rattle.k42_runtime.proofs.cells.give_back.Goals as goal

pub give_next-requires-clause-ready : goal.give_next-requires-clause-ready
give_next-requires-clause-ready g c κs within =
    let F = layouts_on g.L.Kind.object g.L.Layout.shapes g.L.Layout.tag_of g.L.Layout.ways g.L.Layout.whole g.L.Layout.serves g.L.Layout.admitted g.L.Layout.act_of c.args.sys.now.procs c.args.sys.now.callers in
    subst (λ (id : ℕ). MayPutBack F c.args.sys.now.layouts id c.loop-cell.pass.view c.in-Some.cell) (sym c.loop-cell.invariant.same.seat)
    (last_ready F c.args.sys.now.layouts c.args.pass.now c.loop-cell.pass c.args.cells.items c.loop-cell.cells.items c.pop.new.self.items c.in-Some.cell
    c.loop-cell.invariant c.in-Some.ensures.items)

pub loop-cell-preserved : goal.loop-cell-preserved
loop-cell-preserved g c =
    let F = layouts_on g.L.Kind.object g.L.Layout.shapes g.L.Layout.tag_of g.L.Layout.ways g.L.Layout.whole g.L.Layout.serves g.L.Layout.admitted g.L.Layout.act_of c.args.sys.now.procs c.args.sys.now.callers in
    gives_next F c.args.sys.now.layouts c.args.pass.now c.loop-cell.pass c.args.cells.items c.loop-cell.cells.items c.pop.new.self.items c.in-Some.cell
    c.loop-cell.invariant c.in-Some.ensures.items c.give_next.new.pass c.give_next.ensures.same c.give_next.ensures.comes

pub returns-clause-comes : goal.returns-clause-comes
returns-clause-comes g c =
    let view = c.loop-cell.pass.view in
    let none : c.loop-cell.cells.items ≡ [] = nothing_left c.loop-cell.cells.items (sym c.loop-cell.cells.ok.0 ∙ c.in_default.ensures.cases.0) in
    record {
      knows =
          sym (released_none view c.loop-cell.invariant.back) ∙ ap (λ (xs : List (Content _ _ _)). released (numbers_of xs) view) (sym none)
          ∙ c.loop-cell.invariant.released_is;
      log = c.loop-cell.invariant.log;
    }
