use Rattle.std.proofs.Common.{◌≡◌, ℕ, ◌+◌, ◌++◌, length, sym, ap, subst, arith}
use Rattle.k42_shapes.specs.Shapes.{cells_of, shape_at}
use Rattle.k42_mediator.specs.Parts.{AreKept}
use Rattle.k42_mediator.proofs.PartsMoved.{kept_same, kept_front}
use Rattle.k42_mediator.proofs.parts.export_row.Goals as goal

pub returns-in_err-parts-clause-kept : goal.returns-in_err-parts-clause-kept
returns-in_err-parts-clause-kept g c =
    kept_same (g.L.Layout.ways c.args.layout.now) c.args.procs (cells_of (shape_at (g.L.Layout.shapes c.args.layout.now) (g.L.Layout.tag_of c.args.layout.now)) c.args.procs) 0 c.args.row.now

pub returns-clause-kept : goal.returns-clause-kept
returns-clause-kept g c =
    let ways = g.L.Layout.ways c.args.layout.now in let procs : ℕ = c.args.procs in let many : ℕ = cells_of (shape_at (g.L.Layout.shapes c.args.layout.now) (g.L.Layout.tag_of c.args.layout.now)) procs in
    let own = c.split_at_mut-own.result.0.now in let rest = c.split_at_mut-own.result.1.now in let new = c.export_behind.new.cells in
    let zero : length c.in_ok-parts.parts.items ≡ 0 = ap length c.in_ok-parts.ensures.items in
    let front = c.split_at_mut-own.ensures.front_len in let is = c.cells_in-many.ensures.is in
    let all : length c.in_ok-parts.parts.items + length own ≡ many = omega (arith, zero, front, is) in
    subst (λ xs. AreKept ways procs many 0 xs (new ++ rest)) (sym c.split_at_mut-own.ensures.value)
    (kept_front ways procs many 0 own new rest
    (subst (λ (z : ℕ × ℕ). AreKept ways procs z.0 z.1 own new) (λ j. (all j, zero j)) c.export_behind.ensures.kept))
