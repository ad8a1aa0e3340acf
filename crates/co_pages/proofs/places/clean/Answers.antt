use Rattle.std.proofs.Common.{set, option_map, rules, sym, ap, ◌∙◌}
use Rattle.std.proofs.lemmas.List.Edits.{map_over_more}
use Rattle.k42_kinds.specs.Pages.{cleaned}
use Rattle.co_pages.proofs.places.clean.Goals as goal

pub loop-place-preserved : goal.loop-place-preserved
loop-place-preserved c =
    ap (λ page. set c.loop-place.places c.loop-place.place-index page) (c.without_mark.ensures ∙ ap (option_map cleaned) (sym c.place-item.is))
    ∙ map_over_more (option_map cleaned) c.args.places.now c.loop-place.places c.loop-place.place-index c.place-item.result (search rules) c.loop-place.invariant c.place-item.is
