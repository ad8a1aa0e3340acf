use Rattle.std.proofs.Common.{◌≡◌, ◌∷◌, true, rules, subst}
use Rattle.std.specs.List.{list_all}
use Rattle.turn_core.specs.State.{cell_at, change_cell}
use Rattle.turn_core.specs.Names.{names_once}
use Rattle.turn_core.specs.Events.{cell_begun, may_begin}
use Rattle.turn_core.proofs.Undone.{rest_there}
use Rattle.turn_core.proofs.Named.{rest_tested, rest_once}
use Rattle.turn_core.proofs.state.TurnState.+begin_all.Goals as goal

pub begin_all-begun-requires : goal.begin_all-begun-requires
begin_all-begun-requires g t c κs within =
    let first = c.in-Some.first.now in
    let rest = c.in-Some.rest.now in
    let is : c.args.cells.now ≡ first ∷ rest = search rules in
    let becomes = rest_there (cell_begun c.args.entry.now) c.args.self.now c.begin.new.self c.args.cells.now rest first is (search rules) c.requires.there in
    let once : names_once (first ∷ rest) ≡ true = subst (λ xs. names_once xs ≡ true) is c.requires.once in
    let tested : list_all (λ n. may_begin (cell_at c.args.self.now n)) (first ∷ rest) ≡ true = subst (λ xs. list_all (λ n. may_begin (cell_at c.args.self.now n)) xs ≡ true) is c.requires.may_begin in
    let new : c.begin.new.self ≡ change_cell (cell_begun c.args.entry.now) c.args.self.now first = search rules in
    (search rules, (within.0, (within.1, (becomes, (rw new (rest_tested may_begin (cell_begun c.args.entry.now) c.args.self.now first rest once tested), rest_once first rest once)))))
