use Rattle.std.proofs.Common.{ℕ, ◌^◌, refl, sym, ap, ◌∙◌, arith}
use mathlib.Core.Option.{none}
use Rattle.atomic_table.specs.Table.{step}
use Rattle.k42_board.proofs.Entering.{enter_moves, enter_finds}
use Rattle.k42_board.proofs.Moves.{seat_allowed_with}
use Rattle.k42_board.proofs.Stepped.{has_moved}
use Rattle.k42_board.specs.Generating.{entered_view, EnteredFound}
use Rattle.k42_board.specs.Protocol.{enter}
use Rattle.k42_board.specs.Words.{generation_word}
use Rattle.k42_board.specs.declared.view.StepName.TheVariants as steps
use Rattle.k42_board.proofs.words.enter_word.Goals as goal

pub fetch_add-requires : goal.fetch_add-requires
fetch_add-requires g c =
    let t = c.requires.may in let slots : ℕ = c.args.board.now.shared.table_id.slots in let word : ℕ = c.generation_word.result in
    let is = c.generation_word.ensures in let same = is ∙ ap generation_word (sym c.requires.home.1) in (
      t.here.ours,
      (let few = c.requires.home.0 in let wide = t.here.many in omega (arith, few, wide, is)),
      seat_allowed_with (enter_moves _ t.here.laws _ _ word _ t.may same) EnteredFound (enter_finds _ t.here.laws _ _ word _ t.may same)
          c.args.seat.now.me t.here.alone slots (step slots word (2 ^ 32) 0 none),
    )

pub returns : goal.returns
returns g c =
    let t = c.requires.may in let slots : ℕ = c.args.board.now.shared.table_id.slots in let word : ℕ = c.generation_word.result in
    let same = c.generation_word.ensures ∙ ap generation_word (sym c.requires.home.1) in
    has_moved _ _ enter _ c.fetch_add.new.seat steps.Enter (λ n. n) entered_view t.here.alone c.fetch_add.ensures.0 c.fetch_add.ensures.1
    (enter_moves _ t.here.laws _ _ word _ t.may same) same refl (step slots word (2 ^ 32) 0 none) c.fetch_add.result refl c.fetch_add.ensures.2.0 c.fetch_add.ensures.2.1
