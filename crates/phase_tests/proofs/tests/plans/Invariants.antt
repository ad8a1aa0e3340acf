use Rattle.std.proofs.Common.{◌≡◌, map, take}
use Rattle.phase_tests.specs.Plans.{plan_of}
use Rattle.phase_tests.proofs.tests.plans.Given as goal

abbrev pub invariant-loop-layout : goal.invariant-loop-layout
invariant-loop-layout g l = l.plans.items ≡ map (plan_of l.shapes) (take l.layout-index l.layouts)
