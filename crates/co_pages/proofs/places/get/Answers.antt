use Rattle.std.proofs.Common.{sym, ◌∙◌}
use Rattle.co_pages.proofs.PlaceLemmas.{in_place-there, in_place-behind}
use Rattle.co_pages.proofs.places.get.Goals as goal

pub returns-then-place-places : goal.returns-then-place-places
returns-then-place-places c = c.index-places-place.is ∙ sym (in_place-there c.args.places.now c.args.place c.index-places-place.result c.if-place-places.true)

pub returns-else-place-places : goal.returns-else-place-places
returns-else-place-places c = sym (in_place-behind c.args.places.now c.args.place c.if-place-places.false)
