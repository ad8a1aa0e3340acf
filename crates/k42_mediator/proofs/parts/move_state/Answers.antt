use Rattle.std.proofs.Common.{◌≡◌, ℕ, ◌++◌, length, take, drop, sym, ap, ◌∙◌}
use Rattle.std.proofs.Math.Seq.{drop-append_seam}
use Rattle.k42_shapes.specs.Shapes.{cells_of, shape_at}
use Rattle.k42_shapes.proofs.ShapeLaws.{few_cells}
use Rattle.k42_mediator.specs.Parts.{parts_from, filled}
use Rattle.k42_mediator.proofs.PartsMoved.{take_twice}
use Rattle.k42_mediator.proofs.parts.move_state.Goals as goal

pub returns-clause-filled : goal.returns-clause-filled
returns-clause-filled g c =
    let ways = g.L.Layout.ways c.args.layout.now in let onto = g.L.Layout.ways c.args.to.now in let procs : ℕ = c.args.procs in
    let cells = c.args.cells.now in let many : ℕ = cells_of (shape_at (g.L.Layout.shapes c.args.layout.now) (g.L.Layout.tag_of c.args.layout.now)) procs in
    let row = c.export_row.new.row in let new = c.fill.new.cells in
    let own : take many c.split_at_mut-first.result.0.now ≡ take many cells =
    ap (take many) c.split_at_mut-first.ensures.front ∙ take_twice many procs cells (few_cells (shape_at (g.L.Layout.shapes c.args.layout.now) (g.L.Layout.tag_of c.args.layout.now)) procs c.requires.known.2) in
    let state : c.admit-state.result ≡ g.L.Layout.admitted c.args.to.now (ways.combine (parts_from ways procs 0 (take many cells))) =
    c.admit-state.ensures ∙ ap (g.L.Layout.admitted c.args.to.now) (c.in_ok-state.ensures.state ∙ ap (λ xs. ways.combine (parts_from ways procs 0 xs)) own) in
    let long : length row ≡ procs = c.export_row.ensures.many ∙ c.split_at_mut-first.ensures.front_len in
    ap (λ k. drop k (row ++ new)) (sym long) ∙ drop-append_seam row new ∙ c.fill.ensures
    ∙ (λ j. filled ((c.into_iter.ensures.rest ∙ c.in_ok-parts.ensures ∙ ap (onto.imported procs) state) j) (c.split_at_mut-first.ensures.back j))
