use Rattle.std.proofs.Common.{length, ◌-◌, ℕ, List}
use Rattle.std.specs.Prelude.{Option}
use Rattle.record_text.specs.Referee.Courses.{IsWalked}
use Rattle.record_text.proofs.judging.course.Course.walk.Given as goal

abbrev pub invariant-loop-self : goal.invariant-loop-self
invariant-loop-self l = (told : List (Option ℕ)) → IsWalked l.items told l.initial.self → IsWalked l.items told l.self

abbrev pub decreases-loop-self : goal.decreases-loop-self
decreases-loop-self l = length l.items - l.self.at
