use Rattle.std.proofs.Common.{ℕ, refl, arith}
use mathlib.Core.Option.{none}
use Rattle.atomic_table.specs.Table.{step}
use Rattle.k42_board.specs.Protocol.{draw_alone}
use Rattle.k42_board.specs.Views.{pass_in}
use Rattle.k42_board.specs.Words.{role_word}
use Rattle.k42_board.proofs.DrawnAlone.{alone_moves}
use Rattle.k42_board.proofs.Drawers.{draw_allowed, draw_told, draw_is}
use Rattle.k42_board.proofs.Stepped.{has_taken}
use Rattle.k42_board.proofs.draw_words.alone_word.Goals as goal

pub load-requires : goal.load-requires
load-requires g c =
    let slots : ℕ = c.args.board.now.shared.table_id.slots in let v = pass_in c.args.seat.now.me.0 in let t = c.requires.may in (
      t.here.ours,
      (let wide = t.here.many in omega (arith, wide)),
      draw_allowed (alone_moves _ t.here.laws _ _ v c.args.entry.now t.may) _ c.requires.says role_word refl c.args.seat.now.me t.here.alone slots (step slots role_word 0 0 none),
    )

pub returns : goal.returns
returns g c = λ found.
    let slots : ℕ = c.args.board.now.shared.table_id.slots in let me = c.args.seat.now.me in let t = c.requires.may in
    let at = step slots role_word 0 0 none in let now = c.load.new.seat in
    let told = draw_told _ c.requires.says role_word refl me now.me at found c.load.ensures.2 in
    has_taken _ _ (draw_alone c.args.entry.now) _ now t.here.alone c.load.ensures.0 c.load.ensures.1 at found told.0 told.1
    (draw_is (alone_moves _ t.here.laws _ _ (pass_in me.0) c.args.entry.now t.may) me now.me t.here.alone at found told.0)
