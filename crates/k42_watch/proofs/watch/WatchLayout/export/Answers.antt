use Rattle.std.proofs.Common.{◌++◌, ◌∙◌}
use Rattle.k42_watch.specs.WatchedRows.{inners, seens, rejoined}
use Rattle.k42_watch.proofs.Apart.{rejoined_same}
use Rattle.k42_watch.proofs.watch.WatchLayout.export.Goals as goal

pub returns-in_err-inner-clause-kept : goal.returns-in_err-inner-clause-kept
returns-in_err-inner-clause-kept g c =
    rejoined_same c.args.parts.now.items c.put_together.new.parts.items c.export-inner.new.parts.items c.take_apart.new.seens.items
    (c.export-inner.ensures.kept ∙ c.take_apart.ensures.inners ∙ (λ i. c.in_ok-inners.ensures.items i ++ inners ((c.replace.ensures.value i).items)))
    (c.take_apart.ensures.seens ∙ (λ i. c.in_ok-seens.ensures.items i ++ seens ((c.replace.ensures.value i).items)))
    (c.put_together.ensures ∙ (λ i. ((c.replace.ensures.after i).items) ++ rejoined c.export-inner.new.parts.items (c.deref-2.ensures.value i)) ∙ (λ i. c.in_ok-room.ensures.items i ++ rejoined c.export-inner.new.parts.items c.take_apart.new.seens.items))

pub returns-clause-kept : goal.returns-clause-kept
returns-clause-kept g c =
    rejoined_same c.args.parts.now.items c.put_together.new.parts.items c.export-inner.new.parts.items c.take_apart.new.seens.items
    (c.export-inner.ensures.kept ∙ c.take_apart.ensures.inners ∙ (λ i. c.in_ok-inners.ensures.items i ++ inners ((c.replace.ensures.value i).items)))
    (c.take_apart.ensures.seens ∙ (λ i. c.in_ok-seens.ensures.items i ++ seens ((c.replace.ensures.value i).items)))
    (c.put_together.ensures ∙ (λ i. ((c.replace.ensures.after i).items) ++ rejoined c.export-inner.new.parts.items (c.deref-2.ensures.value i)) ∙ (λ i. c.in_ok-room.ensures.items i ++ rejoined c.export-inner.new.parts.items c.take_apart.new.seens.items))
