use Rattle.std.proofs.Common.{ℕ, arith}
use mathlib.Core.Option.{none}
use Rattle.atomic_table.specs.Table.{step}
use Rattle.k42_board.proofs.Knocking.{step_out_moves, step_out_allowed, step_out_told}
use Rattle.k42_board.proofs.Moves.{seat_is}
use Rattle.k42_board.proofs.Stepped.{has_taken}
use Rattle.k42_board.specs.Protocol.{step_out}
use Rattle.k42_board.proofs.table_words.step_out_word.Goals as goal

pub fetch_sub-requires : goal.fetch_sub-requires
fetch_sub-requires g c =
    let t = c.requires.may in let slots : ℕ = c.args.board.now.shared.table_id.slots in let word : ℕ = c.object_word.result in (
      t.here.ours,
      (let small = c.requires.places.0 in let wide = t.here.many in let at = c.object_word.ensures in omega (arith, small, wide, at)),
      step_out_allowed _ t.here.laws _ _ c.args.seat.now.me t.here.alone t.may word c.args.object c.object_word.ensures c.requires.places.1 slots (step slots word 1 0 none),
    )

pub returns : goal.returns
returns g c =
    let slots : ℕ = c.args.board.now.shared.table_id.slots in let before = c.args.seat.now.me in let t = c.requires.may in let word : ℕ = c.object_word.result in
    let told = step_out_told _ t.here.laws c.args.board.now.shared.key.layouts.items c.args.seat.now.id before t.here.alone t.may word c.args.object c.object_word.ensures c.requires.places.1
    (step slots word 1 0 none)
    c.fetch_sub.result c.fetch_sub.new.seat.me c.fetch_sub.ensures.2 in
    has_taken _ _ step_out _ c.fetch_sub.new.seat t.here.alone c.fetch_sub.ensures.0 c.fetch_sub.ensures.1 (step slots word 1 0 none) c.fetch_sub.result told tt
    (seat_is (step_out_moves _ t.here.laws _ _ _ t.may) before c.fetch_sub.new.seat.me t.here.alone (step slots word 1 0 none) c.fetch_sub.result told)
