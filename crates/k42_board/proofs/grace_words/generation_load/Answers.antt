use Rattle.std.proofs.Common.{ℕ, refl, arith}
use mathlib.Core.Option.{none}
use Rattle.atomic_table.specs.Table.{step}
use Rattle.k42_board.proofs.Asking.{ask_stays, ask_finds}
use Rattle.k42_board.proofs.Moves.{seat_stays_allowed}
use Rattle.k42_board.proofs.Stepped.{has_stayed}
use Rattle.k42_board.specs.Gracing.{asked_view, GenerationFound}
use Rattle.k42_board.specs.Protocol.{ask_generation}
use Rattle.k42_board.specs.declared.view.StepName.TheVariants as steps
use Rattle.k42_board.proofs.grace_words.generation_load.Goals as goal

pub load-requires : goal.load-requires
load-requires g c =
    let t = c.requires.may in let slots : ℕ = c.args.board.now.shared.table_id.slots in let word : ℕ = c.generation_word.result in
    let is = c.generation_word.ensures in (
      t.here.ours,
      (let wide = t.here.many in omega (arith, wide, is)),
      seat_stays_allowed (ask_stays _ _ _ word _ t.may is) GenerationFound (ask_finds _ _ _ word _ t.may is) c.args.seat.now.me t.here.alone slots (step slots word 0 0 none),
    )

pub returns : goal.returns
returns g c =
    let t = c.requires.may in let slots : ℕ = c.args.board.now.shared.table_id.slots in let word : ℕ = c.generation_word.result in let is = c.generation_word.ensures in
    has_stayed _ _ ask_generation _ c.load.new.seat steps.AskGeneration (λ n. n) asked_view t.here.alone c.load.ensures.0 c.load.ensures.1
    GenerationFound (ask_finds _ _ _ word _ t.may is) (ask_stays _ _ _ word _ t.may is) is refl (step slots word 0 0 none) c.load.result refl c.load.ensures.2.0 c.load.ensures.2.1
