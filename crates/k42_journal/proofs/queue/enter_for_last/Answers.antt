use Rattle.std.proofs.Common.{rules, ◌-◌, refl, arith}
use Rattle.k42_log.specs.declared.unread.Standing.{Standing}
use Rattle.k42_journal.specs.Queues.{front_of}
use Rattle.k42_journal.proofs.Shifting.{shifted_more, shifted_entered}
use Rattle.k42_journal.proofs.queue.enter_for_last.Goals as goal
use Rattle.k42_journal.proofs.queue.enter_for_last.Goals.{then-loop-place-test+else-stands_before, else-loop-place-test}

pub loop-place-preserved : goal.loop-place-preserved
loop-place-preserved c =
    let place = c.loop-place.place in
    shifted_more c.args.standing (front_of c.args.queue.now) c.loop-place.queue place (place - 1) _ _ (search rules) c.loop-place.invariant refl (search rules)

pub returns : goal.returns
returns c =
    let none : Standing = record { stamp = 0; object = 0; cell = 0; caller = 0 } in
    shifted_entered c.args.standing (front_of c.args.queue.now) c.loop-place.queue c.loop-place.place none c.requires.ordered c.loop-place.invariant
    (λ some. elim c.loop-place-test.branch [
      | then-loop-place-test+else-stands_before w ↦ search rules
      | else-loop-place-test w ↦ absurd (omega (arith, some, w.loop-place-test))
    ])
