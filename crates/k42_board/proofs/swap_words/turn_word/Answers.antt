use Rattle.std.proofs.Common.{ℕ, arith}
use mathlib.Core.Option.{none}
use Rattle.atomic_table.specs.Table.{step}
use Rattle.k42_board.proofs.TurningOver.{turn_moves, turn_allowed, turn_told}
use Rattle.k42_board.proofs.Moves.{seat_is}
use Rattle.k42_board.proofs.Stepped.{has_taken}
use Rattle.k42_board.specs.Protocol.{turn_over}
use Rattle.k42_board.proofs.swap_words.turn_word.Goals as goal

pub fetch_add-requires : goal.fetch_add-requires
fetch_add-requires g c =
    let t = c.requires.may in let slots : ℕ = c.args.board.now.shared.table_id.slots in let word : ℕ = c.object_word.result in (
      t.here.ours,
      (let small = c.requires.places.0 in let wide = t.here.many in let at = c.object_word.ensures in omega (arith, small, wide, at)),
      turn_allowed _ t.here.laws _ _ c.args.layout c.args.seat.now.me t.here.alone t.may word c.args.object c.object_word.ensures c.requires.places.1 c.args.amount c.requires.amount
          slots (step slots word c.args.amount 0 none),
    )

pub returns : goal.returns
returns g c =
    let slots : ℕ = c.args.board.now.shared.table_id.slots in let before = c.args.seat.now.me in let t = c.requires.may in let word : ℕ = c.object_word.result in
    let told = turn_told _ t.here.laws c.args.board.now.shared.key.layouts.items c.args.seat.now.id c.args.layout before t.here.alone t.may word c.args.object c.object_word.ensures c.requires.places.1 c.args.amount c.requires.amount
    (step slots word c.args.amount 0 none)
    c.fetch_add.result c.fetch_add.new.seat.me c.fetch_add.ensures.2 in
    has_taken _ _ (turn_over c.args.layout) _ c.fetch_add.new.seat t.here.alone c.fetch_add.ensures.0 c.fetch_add.ensures.1 (step slots word c.args.amount 0 none) c.fetch_add.result told tt
    (seat_is (turn_moves _ t.here.laws _ _ c.args.layout _ t.may) before c.fetch_add.new.seat.me t.here.alone (step slots word c.args.amount 0 none) c.fetch_add.result told)
