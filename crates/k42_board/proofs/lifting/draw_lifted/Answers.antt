use Rattle.std.proofs.Common.{ℕ, ap, ◌∙◌, refl, arith}
use mathlib.Core.Option.{none}
use Rattle.atomic_table.specs.Table.{step}
use Rattle.k42_joined.specs.Drawing.{first_cell}
use Rattle.k42_board.specs.Drawing.{draws_at, entry_at, numbers_of}
use Rattle.k42_board.specs.Lifted.{cell_listed, slot_in}
use Rattle.k42_board.specs.Log.{took}
use Rattle.k42_board.specs.Protocol.{draw_call}
use Rattle.k42_board.specs.Views.{pass_in}
use Rattle.k42_board.specs.Words.{lock_word}
use Rattle.k42_board.specs.declared.view.StepName.TheVariants as steps
use Rattle.k42_board.proofs.DrawnCall.{drawn_moves}
use Rattle.k42_board.proofs.Drawers.{draw_told}
use Rattle.k42_board.proofs.LiftedSlots.{draw_with, draw_is_with, first_in, has_taken_with}
use Rattle.k42_board.proofs.lifting.draw_lifted.Goals as goal

pub load-requires : goal.load-requires
load-requires g c =
    let slots : ℕ = c.args.board.now.shared.table_id.slots in let me = c.args.seat.now.me in let v = pass_in me.0 in let t = c.requires.holds in
    let cells = cell_listed (slot_in me.1) in let here = c.lock_word.ensures ∙ ap lock_word (first_in (slot_in me.1) c.args.cell t.full) in (
      t.ours,
      (let wide = t.many in let few = t.cell in let is = c.lock_word.ensures in omega (arith, wide, few, is)),
      draw_with (drawn_moves _ t.laws c.requires.agree _ _ v cells c.args.op.now c.args.reply.now c.requires.may) _ c.requires.says c.lock_word.result here
          me t.alone slots (step slots c.lock_word.result 0 0 none),
    )

pub returns : goal.returns
returns g c = λ found.
    let slots : ℕ = c.args.board.now.shared.table_id.slots in let me = c.args.seat.now.me in let v = pass_in me.0 in let t = c.requires.holds in
    let cells = cell_listed (slot_in me.1) in let here = c.lock_word.ensures ∙ ap lock_word (first_in (slot_in me.1) c.args.cell t.full) in
    let at = step slots c.lock_word.result 0 0 none in let now = c.load.new.seat in
    let told = draw_told _ c.requires.says c.lock_word.result here me now.me at found c.load.ensures.2 in
    let op = c.args.op.now in let reply = c.args.reply.now in
    has_taken_with _ _ (draw_call cells op reply) _ now t.alone c.load.ensures.0 c.load.ensures.1
    (λ n v. took steps.Draw (lock_word (first_cell (numbers_of cells))) 0 (draws_at cells (entry_at cells op reply (pass_in me.0)) v)) at found refl told.0 told.1
    (λ new_is. draw_is_with (drawn_moves _ t.laws c.requires.agree _ _ v cells op reply c.requires.may) me now.me t.alone at found told.0)
