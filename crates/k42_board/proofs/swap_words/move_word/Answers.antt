use Rattle.std.proofs.Common.{ℕ, arith}
use mathlib.Core.Option.{none}
use Rattle.atomic_table.specs.Table.{step}
use Rattle.k42_board.proofs.MovingOver.{move_moves, move_allowed, move_told}
use Rattle.k42_board.proofs.Moves.{seat_is}
use Rattle.k42_board.proofs.Stepped.{has_taken}
use Rattle.k42_board.specs.Protocol.{move}
use Rattle.k42_board.proofs.swap_words.move_word.Goals as goal

pub compare_exchange-requires : goal.compare_exchange-requires
compare_exchange-requires g c =
    let t = c.requires.may in let slots : ℕ = c.args.board.now.shared.table_id.slots in let word : ℕ = c.object_word.result in (
      t.here.ours,
      (let small = c.requires.places.0 in let wide = t.here.many in let at = c.object_word.ensures in omega (arith, small, wide, at)),
      move_allowed _ t.here.laws _ _ c.args.seat.now.me t.here.alone t.may word c.args.object c.object_word.ensures c.requires.places.1 c.args.old c.args.new c.requires.words
          slots (step slots word c.args.old c.args.new none),
    )

pub returns : goal.returns
returns g c =
    let slots : ℕ = c.args.board.now.shared.table_id.slots in let before = c.args.seat.now.me in let t = c.requires.may in let word : ℕ = c.object_word.result in
    let told = move_told _ t.here.laws c.args.board.now.shared.key.layouts.items c.args.seat.now.id before t.here.alone t.may word c.args.object c.object_word.ensures c.requires.places.1 c.args.old c.args.new c.requires.words
    (step slots word c.args.old c.args.new none)
    c.compare_exchange.result c.compare_exchange.new.seat.me c.compare_exchange.ensures.2 in
    has_taken _ _ move _ c.compare_exchange.new.seat t.here.alone c.compare_exchange.ensures.0 c.compare_exchange.ensures.1 (step slots word c.args.old c.args.new none) c.compare_exchange.result told c.compare_exchange.ensures.2.1
    (seat_is (move_moves _ t.here.laws _ _ _ t.may) before c.compare_exchange.new.seat.me t.here.alone (step slots word c.args.old c.args.new none) c.compare_exchange.result told)
