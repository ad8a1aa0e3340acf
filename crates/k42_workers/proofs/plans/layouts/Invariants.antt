use Rattle.std.proofs.Common.{◌≡◌, map, take}
use Rattle.k42_workers.specs.Plans.{layout_of}
use Rattle.k42_workers.proofs.plans.layouts.Given as goal

abbrev pub invariant-loop-object : goal.invariant-loop-object
invariant-loop-object l = l.layouts.items ≡ map layout_of (take l.object-index l.objects)
