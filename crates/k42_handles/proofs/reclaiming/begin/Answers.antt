use Rattle.std.proofs.Common.{◌≤◌, rules, refl}
use Rattle.k42_limits.specs.declared.TheConstants.{PASS_GRACES}
use Rattle.k42_handles.proofs.reclaiming.begin.Goals as goal

pub returns-then-graces-ge-PASS_GRACES : goal.returns-then-graces-ge-PASS_GRACES
returns-then-graces-ge-PASS_GRACES c =
    let many : PASS_GRACES ≤ c.args.rests.pass.value.view.graces = search rules in
    record { pass = c.args.rests.pass.value; reclaimed = (refl, many, refl); seat_is = (_, refl, refl, refl) }
