use Rattle.std.proofs.Common.{ℕ, subst, arith}
use mathlib.Core.Option.{none}
use Rattle.atomic_table.specs.Table.{step}
use Rattle.k42_board.proofs.Looking.{root_moves, root_allowed, root_told, word_object_is}
use Rattle.k42_board.proofs.Moves.{seat_is}
use Rattle.k42_board.proofs.Stepped.{has_taken}
use Rattle.k42_board.specs.Protocol.{load_root}
use Rattle.k42_board.specs.Tabling.{RootFound}
use Rattle.k42_board.specs.Views.{pass_in}
use Rattle.k42_board.proofs.table_words.root_word.Goals as goal

pub load-requires : goal.load-requires
load-requires g c =
    let t = c.requires.may in let o : ℕ = c.args.object in let slots : ℕ = c.args.board.now.shared.table_id.slots in let word : ℕ = c.object_word.result in (
      t.here.ours,
      (let few = c.requires.places in let wide = t.here.many in let at = c.object_word.ensures in omega (arith, few, wide, at)),
      root_allowed _ t.here.laws _ _ o c.args.seat.now.me t.here.alone t.may word c.object_word.ensures slots (step slots word 0 0 none),
    )

pub returns : goal.returns
returns g c =
    let slots : ℕ = c.args.board.now.shared.table_id.slots in let before = c.args.seat.now.me in let o : ℕ = c.args.object in let t = c.requires.may in let word : ℕ = c.object_word.result in
    let told = root_told _ t.here.laws _ c.args.seat.now.id o before t.here.alone t.may word c.object_word.ensures
    (step slots word 0 0 none) c.load.result c.load.new.seat.me c.load.ensures.2 in
    has_taken _ _ (load_root o) _ c.load.new.seat t.here.alone c.load.ensures.0 c.load.ensures.1 (step slots word 0 0 none) c.load.result told
    (subst (λ q. RootFound q (pass_in before.0) c.load.result) (word_object_is o word c.object_word.ensures) c.load.ensures.2.1)
    (seat_is (root_moves _ t.here.laws _ _ o _ t.may) before c.load.new.seat.me t.here.alone (step slots word 0 0 none) c.load.result told)
