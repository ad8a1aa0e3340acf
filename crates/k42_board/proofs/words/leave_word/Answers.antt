use Rattle.std.proofs.Common.{ℕ, ◌%◌, refl, sym, ap, ◌∙◌, arith}
use mathlib.Core.Option.{none}
use Rattle.atomic_table.specs.Table.{step}
use Rattle.k42_board.proofs.Leaving.{leave_moves}
use Rattle.k42_board.proofs.Moves.{seat_allowed}
use Rattle.k42_board.proofs.Stepped.{has_moved}
use Rattle.k42_board.specs.Generating.{left_view}
use Rattle.k42_board.specs.Protocol.{leave}
use Rattle.k42_board.specs.Words.{exits_word}
use Rattle.k42_board.specs.declared.view.StepName.TheVariants as steps
use Rattle.k42_board.proofs.words.leave_word.Goals as goal

pub fetch_add-requires : goal.fetch_add-requires
fetch_add-requires g c =
    let t = c.requires.may in let slots : ℕ = c.args.board.now.shared.table_id.slots in let word : ℕ = c.exits_word.result in let b : ℕ = c.args.generation in
    let is = c.exits_word.ensures in let same = is ∙ ap (λ p. exits_word p (b % 2)) (sym c.requires.home.1) in (
      t.here.ours,
      (let few = c.requires.home.0 in let wide = t.here.many in omega (arith, few, wide, is)),
      seat_allowed (leave_moves _ t.here.laws _ _ word b _ t.may same) c.args.seat.now.me t.here.alone slots (step slots word 1 0 none),
    )

pub returns : goal.returns
returns g c =
    let t = c.requires.may in let slots : ℕ = c.args.board.now.shared.table_id.slots in let word : ℕ = c.exits_word.result in let b : ℕ = c.args.generation in
    let same = c.exits_word.ensures ∙ ap (λ p. exits_word p (b % 2)) (sym c.requires.home.1) in
    has_moved _ _ (leave b) _ c.fetch_add.new.seat steps.Leave (λ n. n) (λ found. left_view) t.here.alone c.fetch_add.ensures.0 c.fetch_add.ensures.1
    (leave_moves _ t.here.laws _ _ word b _ t.may same) same refl (step slots word 1 0 none) c.fetch_add.result refl c.fetch_add.ensures.2 tt
