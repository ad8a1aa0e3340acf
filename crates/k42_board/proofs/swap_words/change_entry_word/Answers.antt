use Rattle.std.proofs.Common.{ℕ, arith}
use mathlib.Core.Option.{none}
use Rattle.atomic_table.specs.Table.{step}
use Rattle.k42_board.proofs.EntryTurns.{entry_moves, entry_allowed, entry_told}
use Rattle.k42_board.proofs.Moves.{seat_is}
use Rattle.k42_board.proofs.Stepped.{has_taken}
use Rattle.k42_board.specs.Protocol.{change_entry}
use Rattle.k42_board.proofs.swap_words.change_entry_word.Goals as goal

pub swap-requires : goal.swap-requires
swap-requires g c =
    let t = c.requires.may in let slots : ℕ = c.args.board.now.shared.table_id.slots in let word : ℕ = c.local_word.result in let p : ℕ = c.args.proc in (
      t.here.ours,
      (let few = c.requires.places.0 in let small = c.requires.places.1 in let wide = t.here.many in let at = c.local_word.ensures in omega (arith, few, small, wide, at)),
      entry_allowed _ t.here.laws _ _ p c.args.seat.now.me t.here.alone t.may word c.args.object c.local_word.ensures c.requires.places.2 c.args.new c.requires.word
          slots (step slots word c.args.new 0 none),
    )

pub returns : goal.returns
returns g c =
    let slots : ℕ = c.args.board.now.shared.table_id.slots in let before = c.args.seat.now.me in let t = c.requires.may in let word : ℕ = c.local_word.result in let p : ℕ = c.args.proc in
    let told = entry_told _ t.here.laws c.args.board.now.shared.key.layouts.items c.args.seat.now.id p before t.here.alone t.may word c.args.object c.local_word.ensures c.requires.places.2 c.args.new c.requires.word
    (step slots word c.args.new 0 none)
    c.swap.result c.swap.new.seat.me c.swap.ensures.2 in
    has_taken _ _ (change_entry c.args.proc) _ c.swap.new.seat t.here.alone c.swap.ensures.0 c.swap.ensures.1 (step slots word c.args.new 0 none) c.swap.result told tt
    (seat_is (entry_moves _ t.here.laws _ _ p _ t.may) before c.swap.new.seat.me t.here.alone (step slots word c.args.new 0 none) c.swap.result told)
