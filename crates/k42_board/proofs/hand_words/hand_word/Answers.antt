use Rattle.std.proofs.Common.{ℕ, take, drop, ap, ◌∙◌, arith}
use mathlib.Core.Option.{none}
use Rattle.atomic_table.specs.Table.{step}
use Rattle.k42_joined.specs.Drawing.{first_cell}
use Rattle.k42_board.specs.Drawing.{numbers_of}
use Rattle.k42_board.specs.Protocol.{hand_on}
use Rattle.k42_board.specs.Views.{pass_in}
use Rattle.k42_board.specs.Words.{lock_word}
use Rattle.k42_board.proofs.Drawers.{draw_allowed, draw_told, draw_is}
use Rattle.k42_board.proofs.HandedOn.{hand_moves}
use Rattle.k42_board.proofs.Stepped.{has_taken}
use Rattle.k42_board.proofs.hand_words.hand_word.Goals as goal

pub load-requires : goal.load-requires
load-requires g c =
    let slots : ℕ = c.args.board.now.shared.table_id.slots in let v = pass_in c.args.seat.now.me.0 in let key = c.args.board.now.shared.key in
    let cells = c.args.cells.now in let from = take key.procs cells in let onto = drop key.procs cells in let t = c.requires.may in
    let met = g.met.L.Layout g.world.𝓛 g.world.𝓜 g.world.𝓡 ((λ s x. x), (λ x. x), (λ x. x), λ x. x) in (
      t.here.ours,
      (let wide = t.here.many in let few = c.number_at-number.ensures.few in let is = c.lock_word.ensures in omega (arith, wide, few, is)),
      draw_allowed
          (hand_moves _ t.here.laws (λ layout other same tags. (met.agrees layout other same tags).ways) _ _ v from onto c.args.to.now c.args.entry.now t.may.0
          (lock_word (first_cell (numbers_of cells)))) _ c.requires.says
          c.lock_word.result (c.lock_word.ensures ∙ ap lock_word c.number_at-number.ensures.is) c.args.seat.now.me t.here.alone slots (step slots c.lock_word.result 0 0 none),
    )

pub returns : goal.returns
returns g c = λ found.
    let slots : ℕ = c.args.board.now.shared.table_id.slots in let me = c.args.seat.now.me in let key = c.args.board.now.shared.key in
    let cells = c.args.cells.now in let from = take key.procs cells in let onto = drop key.procs cells in let t = c.requires.may in
    let met = g.met.L.Layout g.world.𝓛 g.world.𝓜 g.world.𝓡 ((λ s x. x), (λ x. x), (λ x. x), λ x. x) in
    let at = step slots c.lock_word.result 0 0 none in let now = c.load.new.seat in
    let told = draw_told _ c.requires.says c.lock_word.result (c.lock_word.ensures ∙ ap lock_word c.number_at-number.ensures.is) me now.me at found c.load.ensures.2 in
    has_taken _ _ (hand_on key.procs cells c.args.to.now (g.L.Layout.tag_of c.args.to.now) c.args.entry.now) _ now t.here.alone c.load.ensures.0 c.load.ensures.1 at found told.0 told.1
    (draw_is
    (hand_moves _ t.here.laws (λ layout other same tags. (met.agrees layout other same tags).ways) _ _ (pass_in me.0) from onto c.args.to.now c.args.entry.now t.may.0
    (lock_word (first_cell (numbers_of cells)))) me now.me t.here.alone at found told.0)
