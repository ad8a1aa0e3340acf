use Rattle.std.proofs.Common.{ℕ, subst, arith}
use mathlib.Core.Option.{none}
use Rattle.atomic_table.specs.Table.{step}
use Rattle.k42_board.proofs.Knocking.{knock_moves, knock_allowed, knock_told}
use Rattle.k42_board.proofs.Looking.{word_object_is}
use Rattle.k42_board.proofs.Moves.{seat_is}
use Rattle.k42_board.proofs.Stepped.{has_taken}
use Rattle.k42_board.specs.Protocol.{knock}
use Rattle.k42_board.specs.Tabling.{ObjectFound}
use Rattle.k42_board.specs.Views.{pass_in}
use Rattle.k42_board.proofs.table_words.knock_word.Goals as goal

pub fetch_add-requires : goal.fetch_add-requires
fetch_add-requires g c =
    let t = c.requires.may in let o : ℕ = c.args.object in let slots : ℕ = c.args.board.now.shared.table_id.slots in let word : ℕ = c.object_word.result in (
      t.here.ours,
      (let small = c.requires.places in let wide = t.here.many in let at = c.object_word.ensures in omega (arith, small, wide, at)),
      knock_allowed _ t.here.laws _ _ o c.args.seat.now.me t.here.alone t.may word c.object_word.ensures slots (step slots word 1 0 none),
    )

pub returns : goal.returns
returns g c =
    let slots : ℕ = c.args.board.now.shared.table_id.slots in let before = c.args.seat.now.me in let o : ℕ = c.args.object in let t = c.requires.may in let word : ℕ = c.object_word.result in
    let told = knock_told _ t.here.laws _ c.args.seat.now.id o before t.here.alone t.may word c.object_word.ensures
    (step slots word 1 0 none) c.fetch_add.result c.fetch_add.new.seat.me c.fetch_add.ensures.2 in
    has_taken _ _ (knock o) _ c.fetch_add.new.seat t.here.alone c.fetch_add.ensures.0 c.fetch_add.ensures.1 (step slots word 1 0 none) c.fetch_add.result told
    (subst (λ q. ObjectFound q (pass_in before.0) c.fetch_add.result) (word_object_is o word c.object_word.ensures) c.fetch_add.ensures.2.1)
    (seat_is (knock_moves _ t.here.laws _ _ o _ t.may) before c.fetch_add.new.seat.me t.here.alone (step slots word 1 0 none) c.fetch_add.result told)
