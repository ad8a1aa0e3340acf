use Rattle.std.proofs.Common.{ℕ, refl, arith}
use mathlib.Core.Option.{none}
use Rattle.atomic_table.specs.Table.{step}
use Rattle.k42_board.proofs.Flips.{flip_moves, flip_allowed}
use Rattle.k42_board.proofs.Stepped.{has_moved}
use Rattle.k42_board.specs.Gracing.{flipped_view}
use Rattle.k42_board.specs.Protocol.{flip}
use Rattle.k42_board.specs.declared.view.StepName.TheVariants as steps
use Rattle.k42_board.proofs.grace_words.flip_swap.Goals as goal

pub swap-requires : goal.swap-requires
swap-requires g c =
    let t = c.requires.may in let slots : ℕ = c.args.board.now.shared.table_id.slots in let word : ℕ = c.generation_word.result in
    let p : ℕ = c.args.proc in let is = c.generation_word.ensures in (
      t.here.ours,
      (let few = c.requires.few in let wide = t.here.many in omega (arith, few, wide, is)),
      flip_allowed _ t.here.laws _ _ _ word p _ c.args.seat.now.me t.here.alone t.may is c.args.word c.requires.word slots (step slots word c.args.word 0 none),
    )

pub returns : goal.returns
returns g c =
    let t = c.requires.may in let slots : ℕ = c.args.board.now.shared.table_id.slots in let word : ℕ = c.generation_word.result in
    let p : ℕ = c.args.proc in let is = c.generation_word.ensures in
    has_moved _ _ (flip p) _ c.swap.new.seat steps.Flip (λ n. n) flipped_view t.here.alone c.swap.ensures.0 c.swap.ensures.1
    (flip_moves _ t.here.laws _ _ word p _ t.may is) is refl (step slots word c.args.word 0 none) c.swap.result refl c.swap.ensures.2 tt
