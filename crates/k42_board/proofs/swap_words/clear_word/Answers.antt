use Rattle.std.proofs.Common.{ℕ, arith}
use mathlib.Core.Option.{none}
use Rattle.atomic_table.specs.Table.{step}
use Rattle.k42_board.proofs.Clearing.{clear_moves, clear_allowed, clear_told}
use Rattle.k42_board.proofs.Moves.{seat_is}
use Rattle.k42_board.proofs.Stepped.{has_taken}
use Rattle.k42_board.specs.Protocol.{clear}
use Rattle.k42_board.proofs.swap_words.clear_word.Goals as goal

pub fetch_and-requires : goal.fetch_and-requires
fetch_and-requires g c =
    let t = c.requires.may in let slots : ℕ = c.args.board.now.shared.table_id.slots in let word : ℕ = c.object_word.result in (
      t.here.ours,
      (let small = c.requires.places.0 in let wide = t.here.many in let at = c.object_word.ensures in omega (arith, small, wide, at)),
      clear_allowed _ t.here.laws _ _ c.args.seat.now.me t.here.alone t.may c.requires.granted word c.args.object c.object_word.ensures c.requires.places.1 c.args.mask c.requires.mask
          slots (step slots word c.args.mask 0 none),
    )

pub returns : goal.returns
returns g c =
    let slots : ℕ = c.args.board.now.shared.table_id.slots in let before = c.args.seat.now.me in let t = c.requires.may in let word : ℕ = c.object_word.result in
    let told = clear_told _ t.here.laws c.args.board.now.shared.key.layouts.items c.args.seat.now.id before t.here.alone t.may c.requires.granted word c.args.object c.object_word.ensures c.requires.places.1 c.args.mask c.requires.mask
    (step slots word c.args.mask 0 none)
    c.fetch_and.result c.fetch_and.new.seat.me c.fetch_and.ensures.2 in
    has_taken _ _ clear _ c.fetch_and.new.seat t.here.alone c.fetch_and.ensures.0 c.fetch_and.ensures.1 (step slots word c.args.mask 0 none) c.fetch_and.result told c.fetch_and.ensures.2.1
    (seat_is (clear_moves _ t.here.laws _ _ _ t.may c.requires.granted) before c.fetch_and.new.seat.me t.here.alone (step slots word c.args.mask 0 none) c.fetch_and.result told)
