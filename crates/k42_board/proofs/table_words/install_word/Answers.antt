use Rattle.std.proofs.Common.{ℕ, arith}
use mathlib.Core.Option.{none}
use Rattle.atomic_table.specs.Table.{step}
use Rattle.k42_board.proofs.Installing.{install_moves, install_allowed, install_told}
use Rattle.k42_board.proofs.Moves.{seat_is}
use Rattle.k42_board.proofs.Stepped.{has_taken}
use Rattle.k42_board.specs.Protocol.{install}
use Rattle.k42_board.proofs.table_words.install_word.Goals as goal

pub compare_exchange-requires : goal.compare_exchange-requires
compare_exchange-requires g c =
    let t = c.requires.may in let o : ℕ = c.args.object in let slots : ℕ = c.args.board.now.shared.table_id.slots in let word : ℕ = c.local_word.result in (
      t.here.ours,
      (let few = c.requires.places.0 in let small = c.requires.places.2 in let wide = t.here.many in let at = c.local_word.ensures in omega (arith, few, small, wide, at)),
      install_allowed _ t.here.laws _ _ o c.args.cell c.requires.places.2 c.args.seat.now.me t.here.alone t.may word c.args.home c.local_word.ensures c.requires.places.1 c.args.old c.args.new c.requires.words
          slots (step slots word c.args.old c.args.new none),
    )

pub returns : goal.returns
returns g c =
    let slots : ℕ = c.args.board.now.shared.table_id.slots in let before = c.args.seat.now.me in let t = c.requires.may in let o : ℕ = c.args.object in let word : ℕ = c.local_word.result in
    let told = install_told _ t.here.laws _ c.args.seat.now.id o c.args.cell c.requires.places.2 before t.here.alone t.may word c.args.home c.local_word.ensures c.requires.places.1 c.args.old c.args.new c.requires.words
    (step slots word c.args.old c.args.new none) c.compare_exchange.result c.compare_exchange.new.seat.me c.compare_exchange.ensures.2 in
    has_taken _ _ (install o c.args.cell) _ c.compare_exchange.new.seat t.here.alone c.compare_exchange.ensures.0 c.compare_exchange.ensures.1 (step slots word c.args.old c.args.new none)
    c.compare_exchange.result told tt
    (seat_is (install_moves _ t.here.laws _ _ o c.args.cell _ t.may) before c.compare_exchange.new.seat.me t.here.alone (step slots word c.args.old c.args.new none)
    c.compare_exchange.result told)
