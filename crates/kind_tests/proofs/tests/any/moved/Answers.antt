use Rattle.std.proofs.Common.{arith, ap}
use Rattle.k42_kinds.specs.Objects.{plain_object}
use Rattle.co_any.specs.AnyLaws.{any_stands, any_admits}
use Rattle.co_any.proofs.ImportedRows.{whole_imported}
use Rattle.kind_tests.proofs.tests.any.moved.Goals as goal

pub returns : goal.returns
returns c =
    let from = c.args.from.now in
    let to = c.args.to.now in
    let stands = any_stands from.kind from.tag 8 c.args.parts.now.items (omega (arith, c.requires.known.0)) (omega arith) c.requires.row in
    whole_imported to.kind to.tag 8 c.admit.result c.in_ok-next.next.items c.requires.known.1 (omega arith)
    (rw (c.admit.ensures, c.in_ok-state.ensures.state) (any_admits to.kind from.kind to.tag from.tag _ (omega (arith, c.requires.known.0)) (ap plain_object c.requires.same) stands.served))
    c.in_ok-next.ensures
