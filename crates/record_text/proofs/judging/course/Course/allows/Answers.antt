use Rattle.std.proofs.Common.{arith, refl, sym, ◌∙◌}
use Rattle.std.proofs.lemmas.Bool.Decides.{nat_tests}
use Rattle.std.proofs.lemmas.Option.{same_Some}
use Rattle.record_text.proofs.Referee.Walking.{in_step, not_below, same_in_block}
use Rattle.record_text.proofs.judging.course.Course.allows.Goals as goal

pub returns-then-generation-self : goal.returns-then-generation-self
returns-then-generation-self c = λ items told walked standing. (λ e. cc e, λ step. absurd (omega (arith, c.if-generation-self.true, not_below items told c.args.self.now walked c.args.generation step)))

pub returns-then-not-self : goal.returns-then-not-self
returns-then-not-self c = λ items told walked standing. (λ outside. in_step items told c.args.self.now walked standing c.args.generation (omega arith) (λ is. absurd (grind (arith, is, c.if-not-self.true))), λ step. grind (arith, c.if-not-self.true))

pub returns-else-not-self : goal.returns-else-not-self
returns-else-not-self c = λ items told walked standing. (
  λ same. in_step items told c.args.self.now walked standing c.args.generation (omega arith) (λ is former of. sym (same_Some c.in-Some.former former (sym c.in-Some.is ∙ of)) ∙ (grind (arith, nat_tests, same))),
  λ step. grind (arith, nat_tests, same_in_block items told c.args.self.now walked standing c.args.generation c.in-Some.former (search) c.in-Some.is step),
)

pub returns-in-None : goal.returns-in-None
returns-in-None c = λ items told walked standing. (λ _. in_step items told c.args.self.now walked standing c.args.generation (omega arith) (λ is former of. cc (of, c.in-None.is)), λ step. refl)
