use Rattle.std.proofs.Common.{arith, ◌≡◌, length, ap, ◌∙◌}
use Rattle.k42_copies.specs.Spaced.{shape_of}
use Rattle.k42_copies.proofs.NextRows.{next_row}
use Rattle.k42_copies.proofs.any_copies.AnyCopiesLiving.step_all.Goals as goal

pub returns-clause-moved : goal.returns-clause-moved
returns-clause-moved g c =
    let object = g.K.Kind.object c.args.self.now.kind in
    let as_long : c.len.result ≡ length c.args.parts.now.items = omega (arith, c.args.parts.now.ok.0, c.len.ensures) in
    let moved = c.in_ok-reply.ensures.ok.moved ∙ ap (λ state. object.after state c.args.op.now) c.in_ok-state.ensures in
    c.in_ok-parts.ensures
    ∙ next_row object (shape_of c.args.self.now.spaced) c.requires.whole.procs c.args.parts.now.items c.args.op.now c.index.result.now _ c.len.result
    c.requires.whole.whole c.requires.whole.some c.index.ensures moved as_long
