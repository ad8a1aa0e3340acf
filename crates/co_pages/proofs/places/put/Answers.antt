use Rattle.std.proofs.Common.{set, Some, rules, ap, ◌∙◌}
use Rattle.co_pages.proofs.PlaceLemmas.{set-grown}
use Rattle.co_pages.proofs.places.put.Goals as goal

pub returns-clause-ok : goal.returns-clause-ok
returns-clause-ok c =
    ap (λ items. set items c.args.place (Some c.args.page.now)) c.in_ok-resize.ensures.items
    ∙ set-grown c.args.places.now.items c.args.place _ c.max-many.result c.args.page.now c.args.places.now.ok.0 (search rules)
