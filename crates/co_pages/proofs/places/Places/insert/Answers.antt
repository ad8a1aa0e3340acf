use Rattle.std.proofs.Common.{◌%◌, ◌≡◌, rules, sym, subst}
use Rattle.co_pages.specs.Places.{CellPlaces}
use Rattle.co_pages.proofs.PlaceLemmas.{short_either_way}
use Rattle.co_pages.proofs.places.Places.insert.Goals as goal

pub invariant_of-self : goal.invariant_of-self
invariant_of-self c =
    let own = subst (λ (here : CellPlaces). c.args.number % here.procs ≡ here.cell) (sym c.self.view_is) c.requires in
    (c.self.invariant.0, short_either_way c.self.inside.procs c.self.inside.cell c.args.number _ c.self.inside.places.items c.put.new.places.items c.args.page.now c.put.result c.ranges.number.fits own (search rules) c.self.invariant.1 c.put.ensures.ok c.put.ensures.memory)
