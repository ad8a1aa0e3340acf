use Rattle.std.proofs.Common.{◌≡◌, refl}
use Rattle.std.specs.Prelude.{ℕ, Option, Some, None}
use Rattle.record_text.proofs.Referee.Walking.{passed_silent, passed_inside, passed_outside}
use Rattle.record_text.proofs.judging.course.Course.pass.Goals as goal

none : (told : Option ℕ) → ((generation : ℕ) → told ≡ Some generation → ⊥) → told ≡ None
none None other = refl
none (Some generation) other = absurd (other generation refl)

pub returns-then-self : goal.returns-then-self
returns-then-self c = λ items told walked standing step. rw c.in-Some.is (passed_inside items told c.args.self.now walked standing c.in-Some.generation (rw c.in-Some.is at step) c.if-self.true)

pub returns-else-self : goal.returns-else-self
returns-else-self c = λ items told walked standing step. rw c.in-Some.is (passed_outside items told c.args.self.now walked standing c.in-Some.generation (rw c.in-Some.is at step) c.if-self.false)

pub returns-in_default : goal.returns-in_default
returns-in_default c = λ items told walked standing step. rw (none c.args.generation c.in_default.not-Some) (passed_silent items told c.args.self.now walked standing)
