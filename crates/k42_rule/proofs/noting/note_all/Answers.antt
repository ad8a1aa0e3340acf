use Rattle.std.proofs.Common.{arith}
use Rattle.k42_board.specs.Noting.{due_of}
use Rattle.k42_board.proofs.Notings.{made_more}
use Rattle.k42_rule.proofs.noting.note_all.Goals as goal

pub loop-object-preserved : goal.loop-object-preserved
loop-object-preserved c =
    rw (c.loop-object.invariant, c.note_due.ensures)
    (made_more (due_of c.args.swap c.args.last c.args.rows.now) c.args.noted.now c.loop-object.object (omega (arith, c.loop-object-test.true)))
