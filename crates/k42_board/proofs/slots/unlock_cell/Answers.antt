use Rattle.std.proofs.Common.{ℕ, arith}
use mathlib.Core.Option.{none}
use Rattle.atomic_table.specs.Table.{step}
use Rattle.k42_board.specs.Protocol.{unlock}
use Rattle.k42_board.specs.Views.{pass_in}
use Rattle.k42_board.specs.Words.{lock_word}
use Rattle.k42_board.proofs.CellsAllowed.{unlock_allowed, unlock_told, unlock_is}
use Rattle.k42_board.proofs.Stepped.{has_taken}
use Rattle.k42_board.proofs.slots.unlock_cell.Goals as goal

pub store-requires : goal.store-requires
store-requires g c =
    let slots : ℕ = c.args.board.now.shared.table_id.slots in let t = c.requires.may in let few = t.may.cell in (
      t.here.ours,
      (let wide = t.here.many in let is = c.lock_word.ensures in omega (arith, few, wide, is)),
      rw c.lock_word.ensures
          (unlock_allowed _ t.here.laws _ _ c.args.cell (pass_in c.args.seat.now.me.0) c.args.seat.now.me t.here.alone c.requires.idle t.may slots),
    )

pub returns : goal.returns
returns g c = λ found.
    let slots : ℕ = c.args.board.now.shared.table_id.slots in let me = c.args.seat.now.me in let n : ℕ = c.args.cell in let t = c.requires.may in
    let at = step slots (lock_word n) 0 0 none in
    let now = c.store.new.seat in let v = pass_in me.0 in
    let told = unlock_told _ t.here.laws c.args.board.now.shared.key.layouts.items c.args.seat.now.id n v me t.here.alone c.requires.idle t.may
    c.lock_word.result c.lock_word.ensures at found now.me c.store.ensures.2 in
    has_taken _ _ (unlock n) _ now t.here.alone c.store.ensures.0 c.store.ensures.1 at found told tt
    (unlock_is _ t.here.laws _ _ n v me t.here.alone c.requires.idle t.may now.me at found told)
