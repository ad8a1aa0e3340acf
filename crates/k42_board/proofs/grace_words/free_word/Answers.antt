use Rattle.std.proofs.Common.{ℕ, refl, arith}
use mathlib.Core.Option.{none}
use Rattle.atomic_table.specs.Table.{step}
use Rattle.k42_board.proofs.Frees.{free_moves, free_allowed, free_told}
use Rattle.k42_board.proofs.Stepped.{has_moved}
use Rattle.k42_board.specs.Freeing.{freed_view}
use Rattle.k42_board.specs.Protocol.{free}
use Rattle.k42_board.specs.declared.view.StepName.TheVariants as steps
use Rattle.k42_board.proofs.grace_words.free_word.Goals as goal

pub fetch_max-requires : goal.fetch_max-requires
fetch_max-requires g c =
    let t = c.requires.may in let slots : ℕ = c.args.board.now.shared.table_id.slots in let word : ℕ = c.freed_word.result in
    let o : ℕ = c.args.object in let is = c.freed_word.ensures in (
      t.here.ours,
      (let small = c.requires.small in let wide = t.here.many in omega (arith, small, wide, is)),
      free_allowed _ t.here.laws _ _ _ word _ o _ c.args.seat.now.me t.here.alone t.may is c.args.number c.requires.number slots (step slots word c.args.number 0 none),
    )

pub returns : goal.returns
returns g c =
    let t = c.requires.may in let slots : ℕ = c.args.board.now.shared.table_id.slots in let word : ℕ = c.freed_word.result in
    let o : ℕ = c.args.object in let is = c.freed_word.ensures in
    let told = free_told word o c.args.seat.now.me c.fetch_max.new.seat.me is (step slots word c.args.number 0 none) c.fetch_max.result c.fetch_max.ensures.2 in
    has_moved _ _ (free o) _ c.fetch_max.new.seat steps.Free (λ n. n) (freed_view o) t.here.alone c.fetch_max.ensures.0 c.fetch_max.ensures.1
    (free_moves _ t.here.laws _ _ word _ o _ t.may is) is refl (step slots word c.args.number 0 none) c.fetch_max.result refl told.0 told.1
