use Rattle.std.proofs.Common.{ℕ, map, arith}
use Rattle.k42_board.proofs.Starting.{deals_more}
use Rattle.k42_rule.proofs.start.deal_all.Goals as goal

pub loop-number-preserved : goal.loop-number-preserved
loop-number-preserved g c =
    let h = c.loop-number.invariant.0 in let e = c.in_ok-pass.ensures in let lt = c.loop-number-test.true in let n : ℕ = c.loop-number.number in (
      rw c.in_ok-push.ensures.items
          (deals_more c.args.board.now.shared.table_id c.args.line.now c.args.keep c.args.procs (map g.L.Layout.shapes c.args.board.now.shared.key.layouts.items) c.args.homes.now n c.loop-number.seat.table_id c.deal.new.seat.table_id c.loop-number.seat.me c.deal.new.seat.me
          c.loop-number.passes.items c.in_ok-pass.pass (omega (arith, lt)) e.ours.0 e.ours.1 e.dealt h),
      e.post.0,
      e.post.1,
    )
