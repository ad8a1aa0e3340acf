use Rattle.std.proofs.Common.{ℕ, arith}
use mathlib.Core.Option.{none}
use Rattle.atomic_table.specs.Table.{step}
use Rattle.k42_board.proofs.Looking.{end_moves, end_allowed, end_told}
use Rattle.k42_board.proofs.Moves.{seat_is}
use Rattle.k42_board.proofs.Stepped.{has_taken}
use Rattle.k42_board.specs.Protocol.{end_call}
use Rattle.k42_board.proofs.table_words.end_word.Goals as goal

pub load-requires : goal.load-requires
load-requires g c =
    let t = c.requires.may in let word : ℕ = c.local_word.result in let slots : ℕ = c.args.board.now.shared.table_id.slots in (
      t.here.ours,
      (let few = c.requires.places.0 in let small = c.requires.places.3 in let wide = t.here.many in let at = c.local_word.ensures in omega (arith, few, small, wide, at)),
      end_allowed _ t.here.laws _ _ c.args.seat.now.me t.here.alone t.may word c.args.home c.args.object c.local_word.ensures c.requires.places.1 c.requires.places.2
          slots (step slots word 0 0 none),
    )

pub returns : goal.returns
returns g c =
    let slots : ℕ = c.args.board.now.shared.table_id.slots in let before = c.args.seat.now.me in let t = c.requires.may in let word : ℕ = c.local_word.result in
    let told = end_told _ t.here.laws c.args.board.now.shared.key.layouts.items c.args.seat.now.id before t.here.alone t.may word c.args.home c.args.object c.local_word.ensures c.requires.places.1 c.requires.places.2
    (step slots word 0 0 none) c.load.result c.load.new.seat.me c.load.ensures.2 in
    has_taken _ _ end_call _ c.load.new.seat t.here.alone c.load.ensures.0 c.load.ensures.1 (step slots word 0 0 none) c.load.result told tt
    (seat_is (end_moves _ t.here.laws _ _ _ t.may) before c.load.new.seat.me t.here.alone (step slots word 0 0 none) c.load.result told)
