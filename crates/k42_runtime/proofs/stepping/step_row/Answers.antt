use Rattle.std.proofs.Common.{◌≡◌, ℕ, [], ◌++◌, length, take, drop, ap, ◌∙◌}
use Rattle.std.proofs.lemmas.List.{take-append-drop}
use Rattle.k42_mediator.specs.Parts.{parts_from, filled}
use Rattle.k42_shapes.specs.Shapes.{cells_of, shape_at}
use Rattle.k42_runtime.specs.Stepping.{row_behind}
use Rattle.k42_runtime.proofs.CallStepped.{on_ok_1, filled_front, length-parts_from}
use Rattle.k42_runtime.proofs.stepping.step_row.Goals as goal

pub returns-clause-moved : goal.returns-clause-moved
returns-clause-moved g c =
    let ways = g.L.Layout.ways c.args.layout.now in let procs : ℕ = c.args.procs in let op = c.args.op.now in let cells = c.args.cells.now in
    let many : ℕ = cells_of (shape_at (g.L.Layout.shapes c.args.layout.now) (g.L.Layout.tag_of c.args.layout.now)) procs in let row = parts_from ways procs 0 (take many cells) in
    let own = c.split_at_mut-own.result.0.now in let parts = c.in_ok-parts.parts.items in
    let count : c.cells-many.result ≡ many = c.cells-many.ensures ∙ ap (λ shape. cells_of shape procs) c.shape.ensures in
    let front : own ≡ take many cells = c.split_at_mut-own.ensures.front ∙ ap (λ k. take k cells) count in
    let back : c.split_at_mut-own.result.1.now ≡ drop many cells = c.split_at_mut-own.ensures.back ∙ ap (λ k. drop k cells) count in
    let empty : parts ≡ [] = c.in_ok-parts.ensures.items in
    let same : row_behind ways procs parts own ≡ row = λ j. row_behind ways procs (empty j) (front j) in
    let long : length (ways.row_after row op) ≡ length (take many cells) = c.requires.row.same ∙ length-parts_from ways procs 0 (take many cells) in
    on_ok_1 c.step_behind.result
    (λ (is : c.step_behind.new.cells ≡ filled (drop (length parts) (ways.row_after (row_behind ways procs parts own) op)) own).
    (λ j. (is ∙ (λ k. filled (drop (length (empty k)) (ways.row_after (same k) op)) (front k))) j ++ back j)
    ∙ filled_front (ways.row_after row op) (take many cells) (drop many cells) long c.requires.cells.none
    ∙ ap (filled (ways.row_after row op)) (take-append-drop many cells))
    c.step_behind.ensures.cells
