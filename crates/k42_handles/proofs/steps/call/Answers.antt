use Rattle.std.proofs.Common.{◌≡◌, rules}
use Rattle.std.specs.Prelude.{Some}
use Rattle.k42_handles.specs.declared.seat.Seat.TheVariants.{Works}
use Rattle.k42_handles.proofs.Stepped.{answered}
use Rattle.k42_handles.proofs.steps.call.Goals as goal

pub returns-in-Works : goal.returns-in-Works
returns-in-Works c =
    let spelled : c.args.op ≡ Some c.in-Some.op = search rules in
    let was : c.args.seat.now ≡ Works c.in-Works.works = search rules in
    answered c.args.object c.args.op c.in-Some.op c.args.seat.now c.in-Works.works c.call.new.self c.call.result spelled was c.call.ensures
