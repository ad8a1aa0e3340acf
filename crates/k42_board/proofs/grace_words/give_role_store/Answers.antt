use Rattle.std.proofs.Common.{ℕ, refl, arith}
use mathlib.Core.Option.{none}
use Rattle.atomic_table.specs.Table.{step}
use Rattle.k42_board.proofs.Gives.{give_moves, give_allowed}
use Rattle.k42_board.proofs.Stepped.{has_moved}
use Rattle.k42_board.specs.Gracing.{given_view}
use Rattle.k42_board.specs.Protocol.{give_role}
use Rattle.k42_board.specs.declared.view.StepName.TheVariants as steps
use Rattle.k42_board.proofs.grace_words.give_role_store.Goals as goal

pub store-requires : goal.store-requires
store-requires g c =
    let t = c.requires.may in let slots : ℕ = c.args.board.now.shared.table_id.slots in (
      t.here.ours,
      (let wide = t.here.many in omega (arith, wide)),
      give_allowed _ t.here.laws _ _ _ _ c.args.seat.now.me t.here.alone t.may slots (step slots 1040 0 0 none),
    )

pub returns : goal.returns
returns g c =
    let t = c.requires.may in let slots : ℕ = c.args.board.now.shared.table_id.slots in
    λ found.
    has_moved _ _ give_role _ c.store.new.seat steps.GiveRole (λ n. 0) (λ n. given_view) t.here.alone c.store.ensures.0 c.store.ensures.1
    (give_moves _ t.here.laws _ _ _ t.may) refl refl (step slots 1040 0 0 none) found refl c.store.ensures.2.0 c.store.ensures.2.1
