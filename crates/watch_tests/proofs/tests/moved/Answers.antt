use Rattle.std.proofs.Common.{arith, subst, sym}
use Rattle.watch_tests.proofs.tests.moved.Goals as goal

pub import-requires-clause-served : goal.import-requires-clause-served
import-requires-clause-served g c =
    let laws = g.met.L.Layout g.world.𝓛 g.world.𝓜 g.world.𝓡 ((λ s x. x), (λ x. x), (λ x. x), λ x. x) in
    let from = c.args.from.now in
    let to = c.args.to.now in
    let stands = laws.stands from 8 c.args.parts.now.items (omega (arith, c.requires.known.0)) (omega arith) c.requires.row in
    let admits = laws.admits to from ((g.L.Layout.ways from).combine c.args.parts.now.items) c.requires.known.1 c.requires.known.0 c.requires.same stands.served in
    let state = rw c.expect-state.ensures at c.export.ensures.state in
    rw (c.admit.ensures, state) admits

pub returns : goal.returns
returns g c =
    let laws = g.met.L.Layout g.world.𝓛 g.world.𝓜 g.world.𝓡 ((λ s x. x), (λ x. x), (λ x. x), λ x. x) in
    let from = c.args.from.now in
    let to = c.args.to.now in
    let stands = laws.stands from 8 c.args.parts.now.items (omega (arith, c.requires.known.0)) (omega arith) c.requires.row in
    let admits = laws.admits to from ((g.L.Layout.ways from).combine c.args.parts.now.items) c.requires.known.1 c.requires.known.0 c.requires.same stands.served in
    let state = rw c.expect-state.ensures at c.export.ensures.state in
    let next = rw c.expect.ensures at c.import.ensures in
    let served = rw (← state, ← c.admit.ensures) at admits in
    subst (λ items. g.L.Layout.whole to 8 items) (sym next) (laws.imports to 8 c.admit.result c.requires.known.1 (omega arith) served).whole
