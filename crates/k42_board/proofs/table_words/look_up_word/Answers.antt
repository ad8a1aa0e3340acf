use Rattle.std.proofs.Common.{ℕ, subst, arith}
use mathlib.Core.Option.{none}
use Rattle.atomic_table.specs.Table.{step}
use Rattle.k42_board.proofs.Looking.{look_moves, look_allowed, look_told, object_is}
use Rattle.k42_board.proofs.Moves.{seat_is}
use Rattle.k42_board.proofs.Stepped.{has_taken}
use Rattle.k42_board.specs.Protocol.{look_up}
use Rattle.k42_board.specs.Tabling.{EntryFound}
use Rattle.k42_board.specs.Views.{pass_in}
use Rattle.k42_board.proofs.table_words.look_up_word.Goals as goal

pub load-requires : goal.load-requires
load-requires g c =
    let t = c.requires.may in let o : ℕ = c.args.object in let slots : ℕ = c.args.board.now.shared.table_id.slots in let word : ℕ = c.local_word.result in (
      t.here.ours,
      (let few = c.requires.places.0 in let small = c.requires.places.2 in let wide = t.here.many in let at = c.local_word.ensures in omega (arith, few, small, wide, at)),
      look_allowed _ t.here.laws _ _ o c.requires.places.2 c.args.seat.now.me t.here.alone t.may word c.args.home c.local_word.ensures c.requires.places.1 slots (step slots word 0 0 none),
    )

pub returns : goal.returns
returns g c =
    let slots : ℕ = c.args.board.now.shared.table_id.slots in let before = c.args.seat.now.me in let o : ℕ = c.args.object in let t = c.requires.may in let word : ℕ = c.local_word.result in
    let told = look_told _ t.here.laws _ c.args.seat.now.id o c.requires.places.2 before t.here.alone t.may word c.args.home c.local_word.ensures c.requires.places.1
    (step slots word 0 0 none) c.load.result c.load.new.seat.me c.load.ensures.2 in
    has_taken _ _ (look_up o) _ c.load.new.seat t.here.alone c.load.ensures.0 c.load.ensures.1 (step slots word 0 0 none) c.load.result told
    (subst (λ q. EntryFound q (pass_in before.0) c.load.result) (object_is c.args.home o word c.requires.places.2 c.local_word.ensures) c.load.ensures.2.1)
    (seat_is (look_moves _ t.here.laws _ _ o _ t.may) before c.load.new.seat.me t.here.alone (step slots word 0 0 none) c.load.result told)
