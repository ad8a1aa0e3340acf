use Rattle.std.proofs.Common.{ℕ, refl, arith}
use mathlib.Core.Option.{none}
use Rattle.atomic_table.specs.Table.{step}
use Rattle.k42_board.proofs.Looks.{look_moves, look_finds}
use Rattle.k42_board.proofs.Moves.{seat_allowed_with}
use Rattle.k42_board.proofs.Stepped.{has_moved}
use Rattle.k42_board.specs.Gracing.{looked_view, ExitsFound}
use Rattle.k42_board.specs.Protocol.{look}
use Rattle.k42_board.specs.declared.view.StepName.TheVariants as steps
use Rattle.k42_board.proofs.grace_words.look_word.Goals as goal

pub load-requires : goal.load-requires
load-requires g c =
    let t = c.requires.may in let slots : ℕ = c.args.board.now.shared.table_id.slots in let word : ℕ = c.exits_word.result in
    let p : ℕ = c.args.proc in let b : ℕ = c.args.parity in let is = c.exits_word.ensures in (
      t.here.ours,
      (let few = c.requires.few.0 in let two = c.requires.few.1 in let wide = t.here.many in omega (arith, few, two, wide, is)),
      seat_allowed_with (look_moves _ t.here.laws _ _ word p b _ t.may is) ExitsFound (look_finds _ t.here.laws _ _ word p b _ t.may is)
          c.args.seat.now.me t.here.alone slots (step slots word 0 0 none),
    )

pub returns : goal.returns
returns g c =
    let t = c.requires.may in let slots : ℕ = c.args.board.now.shared.table_id.slots in let word : ℕ = c.exits_word.result in
    let p : ℕ = c.args.proc in let b : ℕ = c.args.parity in let is = c.exits_word.ensures in
    has_moved _ _ (look p b) _ c.load.new.seat steps.Look (λ n. n) looked_view t.here.alone c.load.ensures.0 c.load.ensures.1
    (look_moves _ t.here.laws _ _ word p b _ t.may is) is refl (step slots word 0 0 none) c.load.result refl c.load.ensures.2.0 c.load.ensures.2.1
