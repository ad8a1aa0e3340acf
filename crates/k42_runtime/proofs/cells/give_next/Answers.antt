use Rattle.std.proofs.Common.{ℕ, [], ◌∷◌, sym, subst}
use Rattle.k42_board.specs.Log.{ComesTo}
use Rattle.k42_mediator.specs.Taken.{released}
use Rattle.k42_runtime.proofs.cells.give_next.Goals as goal

pub give_held-requires-clause-number : goal.give_held-requires-clause-number
give_held-requires-clause-number g c κs within = sym c.number-number.ensures

pub returns-clause-comes : goal.returns-clause-comes
returns-clause-comes g c =
    let v = c.args.pass.now.view in
    subst (λ (m : ℕ). ComesTo v (released (m ∷ []) v) c.give_held.new.pass.view) c.number-number.ensures c.give_held.ensures.comes
