use Rattle.std.proofs.Common.{List, subst}
use Rattle.k42_places.specs.Places.{EachPlace}
use Rattle.co_system.specs.Systems.{SystemPass}
use Rattle.swap_future.specs.Rolling.{MayRoll}
use Rattle.roll_tests.proofs.tests.rolls.roll_of.Goals as goal

pub new-requires-clause-passes : goal.new-requires-clause-passes
new-requires-clause-passes g c =
    subst (λ (passes : List SystemPass). EachPlace (λ i. MayRoll c.args.system.now) passes)
    c.as_slice.ensures.value (c.may_roll.ensures.passes c.if-not-may_roll.false)
