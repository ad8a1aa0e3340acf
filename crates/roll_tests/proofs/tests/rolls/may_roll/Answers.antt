use Rattle.std.proofs.Common.{ℕ, length, subst}
use Rattle.roll_tests.specs.Rolls.{AreWithin}
use Rattle.roll_tests.proofs.Rolled.{all_lead, may_roll, within}
use Rattle.roll_tests.proofs.tests.rolls.may_roll.Goals as goal

pub returns-clause-passes : goal.returns-clause-passes
returns-clause-passes c = λ e.
    may_roll c.args.system.now c.args.passes.now c.requires

pub returns-clause-leads : goal.returns-clause-leads
returns-clause-leads c = λ e.
    all_lead c.args.system.now.plan c.objects.result c.args.plan.now (c.are_within.ensures c.if-not-are_within.false)

pub returns-clause-objects : goal.returns-clause-objects
returns-clause-objects c = λ e.
    within (length c.args.system.now.plan.objects) c.args.plan.now
    (subst (λ (n : ℕ). AreWithin n c.args.plan.now) c.objects.ensures.plan (c.are_within.ensures c.if-not-are_within.false))
