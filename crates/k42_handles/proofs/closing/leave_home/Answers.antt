use Rattle.std.proofs.Common.{◌≡◌, refl, ap}
use Rattle.std.specs.Arc.{arc_value}
use Rattle.k42_handles.specs.declared.home.Home.{Home}
use Rattle.k42_handles.proofs.closing.leave_home.Goals as goal

pub returns : goal.returns
returns c =
    let home : c.in-Err.home ≡ c.args.closes.home = c.in-Err.ensures.err in
    (_, refl, ap (λ home. (arc_value {X = Home} home).system) home, refl)
