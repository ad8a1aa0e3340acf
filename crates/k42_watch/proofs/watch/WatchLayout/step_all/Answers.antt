use Rattle.std.proofs.Common.{◌≡◌, ◌++◌, false, IsTrue, length, arith, sym, ap, ◌∙◌, subst}
use Rattle.k42_shapes.specs.Shapes.{cells_of, shape_at}
use Rattle.k42_watch.specs.WatchedRows.{inners, seens, rejoined, within}
use Rattle.k42_watch.specs.CountLaws.{length-inners}
use Rattle.k42_watch.proofs.Apart.{still_long, stepped_row, same_row}
use Rattle.k42_watch.proofs.watch.WatchLayout.step_all.Goals as goal

pub put_together-requires : goal.put_together-requires
put_together-requires g c =
    let laws = g.met.L.Layout in
    let layout = c.args.self.now.inner in
    let procs = c.requires.whole.procs in
    let apart = c.take_apart.ensures.inners ∙ (λ i. c.in_ok-inners.ensures.items i ++ inners ((c.replace.ensures.value i).items)) in
    let not : g.L.Bare.asking.asks c.args.op.now ≡ false = sym c.asks_count.ensures ∙ c.if-asks_count.false in
    let takes : IsTrue ((g.L.Kind.object layout).takes c.args.op.now) = rw not at c.requires.takes in
    let whole = subst (g.L.Layout.whole layout procs) (sym apart) c.requires.whole.whole.inner in
    let long = still_long (g.L.Kind.object layout) (g.L.Layout.ways layout) (g.L.Layout.whole layout procs) (cells_of (shape_at (g.L.Layout.shapes layout) (g.L.Layout.tag_of layout)) procs) c.take_apart.new.inners.items c.step_all-replied.new.parts.items c.args.op.now c.step_all-replied.result
    (λ row lawful. (laws.stands layout procs row c.requires.known c.requires.whole.some lawful).sized)
    whole
    (laws.steps_all layout procs c.take_apart.new.inners.items c.args.op.now c.requires.known c.requires.whole.some takes whole)
    c.step_all-replied.ensures.moved c.step_all-replied.ensures.memory in
    let counted = ap length apart ∙ length-inners c.args.parts.now.items in
    rw c.replace.ensures.after (omega (arith, c.in_ok-room.ensures.len, c.in_ok-room.ensures.exact, c.len-3.ensures, c.args.parts.now.ok.0, c.step_all-replied.new.parts.ok.0, long, counted))

pub returns-clause-moved : goal.returns-clause-moved
returns-clause-moved g c =
    stepped_row g.L.Bare.asking (g.L.Layout.ways c.args.self.now.inner) (within (g.L.Layout.shapes c.args.self.now.inner) (g.L.Layout.tag_of c.args.self.now.inner)) c.args.parts.now.items c.put_together.new.parts.items c.args.op.now
    c.take_apart.new.inners.items c.step_all-replied.new.parts.items c.take_apart.new.seens.items c.count_made.new.seens.items c.is_ok.result
    (c.take_apart.ensures.inners ∙ (λ i. c.in_ok-inners.ensures.items i ++ inners ((c.replace.ensures.value i).items)))
    (c.take_apart.ensures.seens ∙ (λ i. c.in_ok-seens.ensures.items i ++ seens ((c.replace.ensures.value i).items)))
    c.count_made.ensures
    (c.put_together.ensures ∙ (λ i. ((c.replace.ensures.after i).items) ++ rejoined c.step_all-replied.new.parts.items (c.deref-2.ensures.value i)) ∙ (λ i. c.in_ok-room.ensures.items i ++ rejoined c.step_all-replied.new.parts.items c.count_made.new.seens.items))
    c.step_all-replied.result (sym c.asks_count.ensures ∙ c.if-asks_count.false) c.is_ok.ensures.value c.step_all-replied.ensures.moved

pub returns-clause-memory : goal.returns-clause-memory
returns-clause-memory g c =
    same_row g.L.Bare.asking (g.L.Layout.ways c.args.self.now.inner) (within (g.L.Layout.shapes c.args.self.now.inner) (g.L.Layout.tag_of c.args.self.now.inner)) c.args.parts.now.items c.put_together.new.parts.items c.args.op.now
    c.take_apart.new.inners.items c.step_all-replied.new.parts.items c.take_apart.new.seens.items c.count_made.new.seens.items c.is_ok.result
    (c.take_apart.ensures.inners ∙ (λ i. c.in_ok-inners.ensures.items i ++ inners ((c.replace.ensures.value i).items)))
    (c.take_apart.ensures.seens ∙ (λ i. c.in_ok-seens.ensures.items i ++ seens ((c.replace.ensures.value i).items)))
    c.count_made.ensures
    (c.put_together.ensures ∙ (λ i. ((c.replace.ensures.after i).items) ++ rejoined c.step_all-replied.new.parts.items (c.deref-2.ensures.value i)) ∙ (λ i. c.in_ok-room.ensures.items i ++ rejoined c.step_all-replied.new.parts.items c.count_made.new.seens.items))
    c.step_all-replied.result c.is_ok.ensures.value c.step_all-replied.ensures.memory
