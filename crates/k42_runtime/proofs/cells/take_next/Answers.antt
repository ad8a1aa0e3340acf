use Rattle.std.proofs.Common.{inl, ap, ◌∙◌}
use Rattle.turn_core.specs.Names.{names}
use Rattle.k42_mediator.proofs.GivenBack.{comes_taken, locked_home}
use Rattle.k42_board.specs.Plan.{layouts_on}
use Rattle.k42_runtime.proofs.CallTaken.{was_refused, has_taken_next}
use Rattle.k42_runtime.proofs.cells.take_next.Goals as goal

pub lock_patiently-found-requires-clause-may : goal.lock_patiently-found-requires-clause-may
lock_patiently-found-requires-clause-may g c κs within = record {
  cell = c.requires.few;
  unheld = ap (λ held. names held c.args.number) c.requires.held ∙ c.requires.another;
  touches = inl c.requires.inside;
}

pub take-cell-requires-clause-may : goal.take-cell-requires-clause-may
take-cell-requires-clause-may g c κs within =
    locked_home _ _ _ _ c.requires.few c.if-found-ne0.false c.lock_patiently-found.ensures.takes.knows c.lock_patiently-found.ensures.takes.finds.unnoted

pub returns-then-found-ne0-clause-takes : goal.returns-then-found-ne0-clause-takes
returns-then-found-ne0-clause-takes g c =
    was_refused (layouts_on g.L.Kind.object g.L.Layout.shapes g.L.Layout.tag_of g.L.Layout.ways g.L.Layout.whole g.L.Layout.serves g.L.Layout.admitted g.L.Layout.act_of c.args.sys.now.procs c.args.sys.now.callers) c.args.sys.now.layouts c.args.number c.lock_patiently-found.result c.args.pass.now.view
    c.lock_patiently-found.new.pass.view c.args.cells.now.items c.if-found-ne0.true c.lock_patiently-found.ensures.takes.knows c.lock_patiently-found.ensures.takes.finds

pub returns-clause-takes : goal.returns-clause-takes
returns-clause-takes g c =
    has_taken_next (layouts_on g.L.Kind.object g.L.Layout.shapes g.L.Layout.tag_of g.L.Layout.ways g.L.Layout.whole g.L.Layout.serves g.L.Layout.admitted g.L.Layout.act_of c.args.sys.now.procs c.args.sys.now.callers) c.args.sys.now.layouts c.args.number c.args.pass.now.view c.take-cell.new.pass.view
    c.take-cell.result c.args.cells.now.items c.push_reserved.new.self.items
    (comes_taken c.args.number c.lock_patiently-found.result c.take-cell.result c.args.pass.now.view _ _ c.if-found-ne0.false c.lock_patiently-found.ensures.takes.knows c.take-cell.ensures.moved.back.knows)
    c.take-cell.ensures.number c.requires.held c.requires.another c.requires.taken c.lock_patiently-found.ensures.takes.finds.unnoted c.take-cell.ensures.row c.push_reserved.ensures.items
