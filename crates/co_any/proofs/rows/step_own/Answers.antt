use Rattle.std.proofs.Common.{arith, ◌++◌, length, map, sym, ap, subst, ◌∙◌}
use Rattle.std.proofs.lemmas.List.{length-map}
use Rattle.k42_shapes.specs.Shapes.{cells_of, shape_at}
use Rattle.co_any.proofs.RowLengths.{still_long}
use Rattle.co_any.proofs.rows.step_own.Goals as goal

pub put_back-requires : goal.put_back-requires
put_back-requires g c =
    let laws = g.met.L.Layout g.world.𝓛 g.world.𝓜 g.world.𝓡 ((λ s x. x), (λ x. x), (λ x. x), λ x. x) in
    let layout = c.args.layout.now in
    let procs = c.requires.whole.procs in
    let taken = c.take_out.ensures.taken ∙ (λ i. c.in_ok-own.ensures.items i ++ map g.L.Part.Own.own_part (c.deref_mut.ensures.value i)) in
    let whole = subst (g.L.Layout.whole layout procs) (sym taken) c.requires.whole.whole in
    let long = still_long (g.L.Kind.object layout) (g.L.Layout.ways layout) (g.L.Layout.whole layout procs) (cells_of (shape_at (g.L.Layout.shapes layout) (g.L.Layout.tag_of layout)) procs) c.take_out.new.own.items c.step_all-replied.new.parts.items c.args.op.now c.step_all-replied.result
    (λ row lawful. (laws.stands layout procs row c.requires.known c.requires.whole.some lawful).sized)
    whole
    (laws.steps_all layout procs c.take_out.new.own.items c.args.op.now c.requires.known c.requires.whole.some c.requires.takes whole)
    c.step_all-replied.ensures.moved c.step_all-replied.ensures.memory in
    let counted = ap length taken ∙ length-map c.args.parts.now.items g.L.Part.Own.own_part in
    omega (arith, c.deref_mut-2.ensures.len, c.args.parts.now.ok.0, long, counted)
