use Rattle.std.proofs.Common.{refl}
use Rattle.k42_runtime.proofs.CallWaited.{called_on, same_seat_on}
use Rattle.k42_runtime.proofs.system.System.call.Goals as goal

pub returns-in-Ended-clause-called : goal.returns-in-Ended-clause-called
returns-in-Ended-clause-called g c =
    called_on c.args.pass.now.view c.loop.pass.view c.try_call.new.pass.view c.args.object c.args.op c.try_call.new.reply c.loop.invariant.since
    (c.in-Ended.ensures.ended refl)

pub returns-in-Ended-clause-seat : goal.returns-in-Ended-clause-seat
returns-in-Ended-clause-seat g c = same_seat_on c.args.pass.now c.loop.pass c.try_call.new.pass c.loop.invariant.seat c.try_call.ensures.seat

pub returns-in-Memory-clause-seat : goal.returns-in-Memory-clause-seat
returns-in-Memory-clause-seat g c = same_seat_on c.args.pass.now c.loop.pass c.try_call.new.pass c.loop.invariant.seat c.try_call.ensures.seat
