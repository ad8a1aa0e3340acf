use Rattle.std.proofs.Common.{arith, ◌≡◌, get_or, sym, ap, ◌∙◌}
use Rattle.std.specs.List.{insert}
use Rattle.std.proofs.Math.ListN.{set}
use Rattle.std.proofs.lemmas.List.{get_or_read}
use Rattle.co_limiter.specs.Routes.{is_of, place_of, with_route}
use Rattle.co_limiter.proofs.Places.{inserted, replaced}
use Rattle.co_limiter.proofs.table.Table.add.Goals as goal
use Rattle.co_limiter.proofs.table.Table.add.Goals.{else-place-len-via-then-place-len+else-is_of, else-place-len-via-else-place-len}

pub returns-then-is_of-clause-ok : goal.returns-then-is_of-clause-ok
returns-then-is_of-clause-ok c =
    let routes = c.self.inside.routes.items in
    let route = c.args.route.now in
    let placed : c.place_of-place.result ≡ place_of routes route = c.place_of-place.ensures.place ∙ ap (λ all. place_of all route) c.deref.ensures.value in
    ap (λ place. set routes place route) placed
    ∙ replaced route routes c.index.result.now (omega (arith, placed, c.if-place-len.true, c.len.ensures, c.self.inside.routes.ok.0))
    (ap (λ place. is_of route.prefix route.bits (get_or routes place c.index.result.now)) (sym placed)
    ∙ ap (is_of route.prefix route.bits) (sym c.index.ensures) ∙ sym c.is_of.ensures ∙ c.if-is_of.true)
    ∙ ap (λ all. with_route all route) c.self.view_is

pub returns-in_ok-insert-clause-ok : goal.returns-in_ok-insert-clause-ok
returns-in_ok-insert-clause-ok c =
    let routes = c.self.inside.routes.items in
    let route = c.args.route.now in
    let placed : c.place_of-place.result ≡ place_of routes route = c.place_of-place.ensures.place ∙ ap (λ all. place_of all route) c.deref.ensures.value in
    c.in_ok-insert.ensures.items
    ∙ ap (λ place. insert routes place route) placed
    ∙ inserted route routes route (λ within.
    ap (λ place. is_of route.prefix route.bits (get_or routes place route)) (sym placed)
    ∙ elim c.else-place-len.branch [
      | else-place-len-via-then-place-len+else-is_of w ↦
          ap (is_of route.prefix route.bits) (sym (get_or_read routes c.place_of-place.result w.index.result.now (omega (arith, placed, within)) w.index.ensures route))
          ∙ sym w.is_of.ensures ∙ w.if-is_of.false
      | else-place-len-via-else-place-len w ↦ absurd (omega (arith, placed, within, w.if-place-len.false, c.len.ensures, c.self.inside.routes.ok.0))
    ])
    ∙ ap (λ all. with_route all route) c.self.view_is
