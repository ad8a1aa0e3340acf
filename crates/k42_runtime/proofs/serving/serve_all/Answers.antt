use Rattle.std.proofs.Common.{[], sym, ap, ◌∙◌, subst}
use Rattle.k42_kinds.specs.declared.entry.Reach.TheVariants.{All}
use Rattle.k42_joined.specs.Numbers.{row_cells}
use Rattle.k42_board.specs.declared.view.PassView.{PassView}
use Rattle.k42_board.specs.declared.view.Inside.{Inside}
use Rattle.k42_board.specs.Plan.{layouts_on}
use Rattle.k42_runtime.specs.Reaching.{HasTaken, WasStopped}
use Rattle.k42_runtime.specs.Serving.{object_inside, row_inside, step_with}
use Rattle.k42_runtime.proofs.CallMade.{at_still}
use Rattle.k42_runtime.proofs.CallServed.{served_held, served_by}
use Rattle.k42_runtime.proofs.serving.serve_all.Goals as goal

pub returns-in-Some-clause-served : goal.returns-in-Some-clause-served
returns-in-Some-clause-served g c =
    let F = layouts_on g.L.Kind.object g.L.Layout.shapes g.L.Layout.tag_of g.L.Layout.ways g.L.Layout.whole g.L.Layout.serves g.L.Layout.admitted g.L.Layout.act_of c.args.sys.now.procs c.args.sys.now.callers in let declared = c.args.sys.now.layouts in
    let v = c.args.pass.now.view in let mid = c.take_row.new.pass.view in let contents = c.take_row.new.cells.items in
    served_held F declared v mid contents c.requires.settled.back c.in-Some.holder c.give_back.new.pass.view
    (subst (λ (x : Inside). WasStopped F declared c.in-Some.holder x.object v mid contents) c.inside-inside.ensures.is c.in-Some.ensures.takes)
    c.give_back.ensures.comes

pub make_all-tried-requires-clause-has : goal.make_all-tried-requires-clause-has
make_all-tried-requires-clause-has g c κs within =
    let F = layouts_on g.L.Kind.object g.L.Layout.shapes g.L.Layout.tag_of g.L.Layout.ways g.L.Layout.whole g.L.Layout.serves g.L.Layout.admitted g.L.Layout.act_of c.args.sys.now.procs c.args.sys.now.callers in let declared = c.args.sys.now.layouts in
    let v = c.args.pass.now.view in let w = c.take_row.new.pass.view in let contents = c.take_row.new.cells.items in
    let taken = subst (λ (x : Inside). HasTaken F declared (row_cells F.procs x.object x.incarnation) v w contents) c.inside-inside.ensures.is c.in-None.ensures.takes in
    record {
      call = at_still F declared c.args.layout.now c.args.op.now All [] (row_cells F.procs (object_inside v) (row_inside v)) w.log v w taken.released_is c.requires.call;
      numbers = taken.numbers ∙ ap (λ (x : PassView _ _ _). row_cells F.procs (object_inside x) (row_inside x)) (sym taken.released_is);
      held = taken.held ∙ sym taken.numbers;
      taken = taken.taken;
      rows = taken.rows;
      back = c.take_row.ensures.may.back;
    }

pub returns-in-None-clause-served : goal.returns-in-None-clause-served
returns-in-None-clause-served g c =
    let F = layouts_on g.L.Kind.object g.L.Layout.shapes g.L.Layout.tag_of g.L.Layout.ways g.L.Layout.whole g.L.Layout.serves g.L.Layout.admitted g.L.Layout.act_of c.args.sys.now.procs c.args.sys.now.callers in let declared = c.args.sys.now.layouts in
    let v = c.args.pass.now.view in let mid = c.take_row.new.pass.view in let contents = c.take_row.new.cells.items in
    served_by F declared v mid contents c.requires.settled.back _ c.in-None.ensures.takes
    c.args.op.now c.make_all-tried.new.pass.view c.give_back-in-None.new.pass.view c.make_all-tried.new.cells.items c.make_all-tried.ensures.numbers c.give_back-in-None.ensures.comes
    (step_with c.make_all-tried.result c.make_all-tried.new.reply) c.requires.settled.told c.make_all-tried.ensures.makes
