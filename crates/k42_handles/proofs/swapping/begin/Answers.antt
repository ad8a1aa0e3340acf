use Rattle.std.proofs.Common.{◌<◌, length, rules, refl, arith}
use Rattle.std.specs.Arc.{arc_value}
use Rattle.k42_handles.proofs.swapping.begin.Goals as goal

pub returns : goal.returns
returns c =
    let there : c.args.object < length (arc_value c.args.rests.home).system.plan.objects = search rules in
    record {
      missing = λ few. absurd (omega (arith, there, few));
      stepped = λ _. (_, record { home = refl; pass = refl; swap = c.new-swap.ensures }, c.step.ensures);
    }
