use Rattle.std.proofs.Common.{◌∙◌, sym, subst}
use Rattle.swap_future.specs.Rolling.{RollSeen, IsRolling}
use Rattle.swap_future.proofs.Turns.{new_rolls}
use Rattle.swap_future.proofs.rolling.Roll.new.Goals as goal

pub returns-clause-rolls : goal.returns-clause-rolls
returns-clause-rolls c =
    subst (λ (r : RollSeen). IsRolling c.args.system.now r) (sym c.in_ok-rolling.ensures.new)
    (new_rolls c.args.system.now c.args.plan.items c.args.passes.items c.requires.some c.requires.passes c.requires.objects c.requires.leads
    (sym c.objects-objects.ensures.table ∙ c.objects-objects.ensures.plan))
