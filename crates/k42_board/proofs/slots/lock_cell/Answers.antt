use Rattle.std.proofs.Common.{ℕ, ◌+◌, sym, ap, ◌∙◌, arith}
use mathlib.Core.Option.{none}
use Rattle.atomic_table.specs.Table.{step}
use Rattle.k42_board.specs.Protocol.{lock}
use Rattle.k42_board.specs.Views.{pass_in}
use Rattle.k42_board.specs.Words.{lock_word}
use Rattle.k42_board.proofs.CellsAllowed.{lock_moves, locks_at, lock_allowed, lock_told, lock_is}
use Rattle.k42_board.proofs.Stepped.{has_taken}
use Rattle.k42_board.proofs.slots.lock_cell.Goals as goal

pub compare_exchange-requires : goal.compare_exchange-requires
compare_exchange-requires g c =
    let slots : ℕ = c.args.board.now.shared.table_id.slots in let t = c.requires.may in let few = t.may.cell in let v = pass_in c.args.seat.now.me.0 in (
      t.here.ours,
      (let wide = t.here.many in let is = c.lock_word.ensures in omega (arith, few, wide, is)),
      rw c.lock_word.ensures
          (lock_allowed _ t.here.laws _ _ c.args.cell v c.args.seat.now.me t.here.alone c.requires.idle locks_at (lock_moves _ t.here.laws _ _ _ v t.may c.requires.idle) t.may
          (c.from-new.result + 1) (ap (λ (z : ℕ). z + 1) (c.from-new.ensures ∙ sym c.requires.number)) slots),
    )

pub returns : goal.returns
returns g c =
    let slots : ℕ = c.args.board.now.shared.table_id.slots in let me = c.args.seat.now.me in let n : ℕ = c.args.cell in let t = c.requires.may in
    let at = step slots (lock_word n) 0 (c.from-new.result + 1) none in
    let now = c.compare_exchange.new.seat in let v = pass_in me.0 in
    let moves = lock_moves _ t.here.laws c.args.board.now.shared.key.layouts.items c.args.seat.now.id n v t.may c.requires.idle in
    let told = lock_told _ t.here.laws _ _ n v me t.here.alone c.requires.idle locks_at moves t.may
    c.lock_word.result c.lock_word.ensures at c.compare_exchange.result now.me c.compare_exchange.ensures.2 in
    has_taken _ _ (lock n) _ now t.here.alone c.compare_exchange.ensures.0 c.compare_exchange.ensures.1 at c.compare_exchange.result told.0 told.1
    (lock_is _ t.here.laws _ _ n v me t.here.alone c.requires.idle locks_at moves now.me at c.compare_exchange.result told.0)
