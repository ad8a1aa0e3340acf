use Rattle.std.proofs.Common.{ℕ, ◌+◌, refl, arith}
use mathlib.Core.Option.{none}
use Rattle.atomic_table.specs.Table.{step}
use Rattle.k42_board.proofs.Roles.{role_moves, role_allowed}
use Rattle.k42_board.proofs.Stepped.{has_moved}
use Rattle.k42_board.specs.Gracing.{role_view}
use Rattle.k42_board.specs.Protocol.{take_role}
use Rattle.k42_board.specs.declared.view.StepName.TheVariants as steps
use Rattle.k42_board.proofs.grace_words.take_role_word.Goals as goal

pub compare_exchange-requires : goal.compare_exchange-requires
compare_exchange-requires g c =
    let t = c.requires.may in let number : ℕ = c.args.number in let slots : ℕ = c.args.board.now.shared.table_id.slots in (
      t.here.ours,
      (let wide = t.here.many in omega (arith, wide)),
      role_allowed _ t.here.laws _ _ _ _ c.args.seat.now.me t.here.alone t.may number c.requires.number.0 slots (step slots 1040 0 (number + 1) none),
    )

pub returns : goal.returns
returns g c =
    let t = c.requires.may in let slots : ℕ = c.args.board.now.shared.table_id.slots in
    has_moved _ _ take_role _ c.compare_exchange.new.seat steps.TakeRole (λ n. n) role_view t.here.alone c.compare_exchange.ensures.0 c.compare_exchange.ensures.1
    (role_moves _ t.here.laws _ _ _ t.may) refl refl (step slots 1040 0 (c.args.number + 1) none) c.compare_exchange.result refl
    c.compare_exchange.ensures.2.0 c.compare_exchange.ensures.2.1
