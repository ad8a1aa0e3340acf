use Rattle.std.proofs.Common.{◌≡◌, ◌<◌, ℕ, false, [], ◌∷◌, ◌++◌, inl, inr, sym, ap, ◌∙◌, subst, arith}
use Rattle.std.specs.Prelude.{◌%◌}
use Rattle.turn_core.specs.Names.{names}
use Rattle.k42_board.specs.Drawing.{numbers_of}
use Rattle.k42_board.specs.Log.{ComesTo, with_log}
use Rattle.k42_board.specs.Taking.{locked_view, taken_view}
use Rattle.k42_board.specs.declared.view.PassView.{PassView}
use Rattle.k42_rule.proofs.HandedNotes.{numbers_more}
use Rattle.k42_mediator.specs.Taken.{released, AreTaken}
use Rattle.k42_mediator.proofs.GivenBack.{comes_taken, locked_home, released_taken}
use Rattle.k42_mediator.proofs.NotesTold.{taken_more}
use Rattle.k42_mediator.proofs.rows.take_next.Goals as goal

small : (n : ℕ) → n % 8 < 8
small n = omega arith

pub lock-requires-after_bounds : goal.lock-requires-after_bounds
lock-requires-after_bounds g c κs within = record {
  ours = c.requires.ours;
  may = record {
    cell = c.requires.few;
    unheld = ap (λ held. names held c.args.number) c.requires.held ∙ c.requires.another;
    touches = inr (inl c.requires.moved);
  };
}

pub take-cell-requires-clause-may : goal.take-cell-requires-clause-may
take-cell-requires-clause-may g c κs within =
    let finds = c.lock.ensures.takes.finds in
    locked_home _ _ _ _ c.requires.few (finds.free (inl (record { there = small c.args.number; moves = c.requires.moved.moves })))
    c.lock.ensures.takes.knows finds.unnoted

pub returns-clause-held : goal.returns-clause-held
returns-clause-held g c =
    let cell = c.take-cell.result in let cells = c.args.cells.now.items in let v = c.args.pass.now.view in let n : ℕ = c.args.number in
    let finds = c.lock.ensures.takes.finds in
    let free : c.lock.result ≡ 0 = finds.free (inl (record { there = small n; moves = c.requires.moved.moves })) in
    let comes : ComesTo v (taken_view cell (locked_view n 0 v)) c.take-cell.new.pass.view =
    comes_taken n _ cell v _ _ free c.lock.ensures.takes.knows c.take-cell.ensures.moved.back.knows in
    ap (λ (w : PassView _ _ _). w.taker.held) comes.knows ∙ ap (λ held. held ++ n ∷ []) c.requires.held
    ∙ sym (ap numbers_of c.push_reserved.ensures.items ∙ numbers_more cells (cell ∷ []) ∙ ap (λ m. numbers_of cells ++ m ∷ []) c.take-cell.ensures.number)

pub returns-clause-taken : goal.returns-clause-taken
returns-clause-taken g c =
    let cell = c.take-cell.result in let cells = c.args.cells.now.items in let v = c.args.pass.now.view in let n : ℕ = c.args.number in
    let finds = c.lock.ensures.takes.finds in
    let free : c.lock.result ≡ 0 = finds.free (inl (record { there = small n; moves = c.requires.moved.moves })) in
    let comes : ComesTo v (taken_view cell (locked_view n 0 v)) c.take-cell.new.pass.view =
    comes_taken n _ cell v _ _ free c.lock.ensures.takes.knows c.take-cell.ensures.moved.back.knows in
    let another = ap (names (numbers_of cells)) c.take-cell.ensures.number ∙ c.requires.another in
    subst (λ xs. AreTaken c.take-cell.new.pass.view.notes xs) (sym c.push_reserved.ensures.items)
    (subst (λ ns. AreTaken ns (cells ++ cell ∷ [])) (sym (ap (λ (w : PassView _ _ _). w.notes) comes.knows)) (taken_more cell v.notes cells another c.requires.taken))

pub returns-clause-released : goal.returns-clause-released
returns-clause-released g c =
    let cell = c.take-cell.result in let cells = c.args.cells.now.items in let v = c.args.pass.now.view in let n : ℕ = c.args.number in
    let new = c.take-cell.new.pass.view in let finds = c.lock.ensures.takes.finds in
    let free : c.lock.result ≡ 0 = finds.free (inl (record { there = small n; moves = c.requires.moved.moves })) in
    let comes : ComesTo v (taken_view cell (locked_view n 0 v)) new =
    comes_taken n _ cell v _ _ free c.lock.ensures.takes.knows c.take-cell.ensures.moved.back.knows in
    let numbers : numbers_of c.push_reserved.new.self.items ≡ numbers_of cells ++ n ∷ [] =
    ap numbers_of c.push_reserved.ensures.items ∙ numbers_more cells (cell ∷ []) ∙ ap (λ m. numbers_of cells ++ m ∷ []) c.take-cell.ensures.number in
    let unheld : names v.taker.held n ≡ false = ap (λ held. names held n) c.requires.held ∙ c.requires.another in
    (λ i. released (numbers i) (comes.knows i))
    ∙ ap (with_log new.log) (released_taken (numbers_of cells) n cell v c.take-cell.ensures.number unheld finds.unnoted)

pub returns-clause-log : goal.returns-clause-log
returns-clause-log g c =
    let cell = c.take-cell.result in let v = c.args.pass.now.view in let n : ℕ = c.args.number in
    let free : c.lock.result ≡ 0 = c.lock.ensures.takes.finds.free (inl (record { there = small n; moves = c.requires.moved.moves })) in
    let comes : ComesTo v (taken_view cell (locked_view n 0 v)) c.take-cell.new.pass.view =
    comes_taken n _ cell v _ _ free c.lock.ensures.takes.knows c.take-cell.ensures.moved.back.knows in
    comes.log
