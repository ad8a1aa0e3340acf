use Rattle.std.proofs.Common.{set, rules, sym, ap, ◌∙◌}
use Rattle.std.proofs.lemmas.List.Edits.{map_over_more}
use Rattle.co_pages.specs.Places.{all_clean}
use Rattle.co_pages.proofs.spread.clean.Goals as goal

pub loop-part-preserved : goal.loop-part-preserved
loop-part-preserved c =
    ap (λ part. set c.loop-part.parts c.loop-part.part-index part) (c.clean.ensures ∙ ap (all_clean) (sym c.part-item.is))
    ∙ map_over_more all_clean c.args.parts.now c.loop-part.parts c.loop-part.part-index c.part-item.result (search rules) c.loop-part.invariant c.part-item.is
