use Rattle.k42_journal.specs.Queues.{front_of}
use Rattle.k42_journal.proofs.Shifting.{IsShifted}
use Rattle.k42_journal.proofs.queue.enter_for_last.Given as goal

abbrev pub invariant-loop-place : goal.invariant-loop-place
invariant-loop-place l = IsShifted l.standing (front_of l.initial.queue) l.queue l.place

abbrev pub decreases-loop-place : goal.decreases-loop-place
decreases-loop-place l = l.place
