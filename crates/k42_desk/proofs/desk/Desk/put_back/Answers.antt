use Rattle.std.proofs.Common.{rules, subst, sym}
use Rattle.atomic_table.specs.Table.{Allows}
use Rattle.k42_desk.specs.Kept.{Guarded}
use Rattle.k42_desk.proofs.Steps.{releases}
use Rattle.k42_desk.proofs.desk.Desk.put_back.Goals as goal

pub store-requires : goal.store-requires
store-requires g c =
    let key = c.self.inside.table.shared.key in
    let fits = g.F.Fits.fits key in
    let seat = c.exchange.new.seat in
    let is = subst (λ d. g.F.Fits.fits d.key c.args.value) (sym c.self.view_is) c.requires.fits in
    (search rules, search rules, subst (λ n. Allows (Guarded fits) n seat.id seat.me 0 (λ _. 0) (λ _ _. Unit {0})) (sym c.self.invariant.1) (releases fits _ _ _ _ _ c.exchange.ensures.3 is))
