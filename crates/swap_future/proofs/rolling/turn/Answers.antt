use Rattle.std.proofs.Common.{Ok, Err, sym, subst}
use Rattle.k42_runtime.specs.Swaps.{HasStepped}
use Rattle.k42_runtime.specs.declared.swaps.NoSwap.TheVariants.{Memory, Worn}
use Rattle.swap_future.specs.Rolling.{RollSeen, seen}
use Rattle.swap_future.specs.Rounds.{HasTurned}
use Rattle.swap_future.proofs.AtHand.{is_none}
use Rattle.swap_future.proofs.Turns.{going_now, fits_now, waits_now, ends_now, turned_idle}
use Rattle.swap_future.proofs.rolling.turn.Goals as goal

pub returns-in_default : goal.returns-in_default
returns-in_default c =
    let none = c.take_flight.ensures.none (is_none c.take_flight.result c.in_default.not-Some) in
    subst (λ (r : RollSeen). HasTurned c.args.system.now c.args.place (seen c.args.rolling.now) r) (sym none.0)
    (turned_idle c.args.system.now c.args.place (seen c.args.rolling.now) c.requires.rolls none.1 none.2)

pub step-requires-clause-ours : goal.step-requires-clause-ours
step-requires-clause-ours c l =
    (going_now c.args.system.now c.args.place (seen c.args.rolling.now) c.requires.rolls c.in-Some.flight (seen c.take_flight.new.rolling) c.in-Some.ensures.some
    c.index_mut.result.now c.requires.there c.index_mut.ensures.value).here

pub step-requires-clause-stage : goal.step-requires-clause-stage
step-requires-clause-stage c l =
    (going_now c.args.system.now c.args.place (seen c.args.rolling.now) c.requires.rolls c.in-Some.flight (seen c.take_flight.new.rolling) c.in-Some.ensures.some
    c.index_mut.result.now c.requires.there c.index_mut.ensures.value).stage

pub step-requires-clause-going : goal.step-requires-clause-going
step-requires-clause-going c l =
    (going_now c.args.system.now c.args.place (seen c.args.rolling.now) c.requires.rolls c.in-Some.flight (seen c.take_flight.new.rolling) c.in-Some.ensures.some
    c.index_mut.result.now c.requires.there c.index_mut.ensures.value).going

pub step-requires-clause-leads : goal.step-requires-clause-leads
step-requires-clause-leads c l =
    (going_now c.args.system.now c.args.place (seen c.args.rolling.now) c.requires.rolls c.in-Some.flight (seen c.take_flight.new.rolling) c.in-Some.ensures.some
    c.index_mut.result.now c.requires.there c.index_mut.ensures.value).leads

pub finish-requires-clause-there : goal.finish-requires-clause-there
finish-requires-clause-there c =
    (fits_now c.args.system.now c.args.place (seen c.args.rolling.now) c.requires.rolls c.in-Some.flight (seen c.take_flight.new.rolling) c.in-Some.ensures.some
    c.index_mut.result.now c.requires.there c.index_mut.ensures.value).0

pub finish-requires-clause-some : goal.finish-requires-clause-some
finish-requires-clause-some c =
    (fits_now c.args.system.now c.args.place (seen c.args.rolling.now) c.requires.rolls c.in-Some.flight (seen c.take_flight.new.rolling) c.in-Some.ensures.some
    c.index_mut.result.now c.requires.there c.index_mut.ensures.value).1

pub finish-requires-in-Memory-clause-there : goal.finish-requires-in-Memory-clause-there
finish-requires-in-Memory-clause-there c =
    (fits_now c.args.system.now c.args.place (seen c.args.rolling.now) c.requires.rolls c.in-Some.flight (seen c.take_flight.new.rolling) c.in-Some.ensures.some
    c.index_mut.result.now c.requires.there c.index_mut.ensures.value).0

pub finish-requires-in-Memory-clause-some : goal.finish-requires-in-Memory-clause-some
finish-requires-in-Memory-clause-some c =
    (fits_now c.args.system.now c.args.place (seen c.args.rolling.now) c.requires.rolls c.in-Some.flight (seen c.take_flight.new.rolling) c.in-Some.ensures.some
    c.index_mut.result.now c.requires.there c.index_mut.ensures.value).1

pub finish-requires-in-Worn-clause-there : goal.finish-requires-in-Worn-clause-there
finish-requires-in-Worn-clause-there c =
    (fits_now c.args.system.now c.args.place (seen c.args.rolling.now) c.requires.rolls c.in-Some.flight (seen c.take_flight.new.rolling) c.in-Some.ensures.some
    c.index_mut.result.now c.requires.there c.index_mut.ensures.value).0

pub finish-requires-in-Worn-clause-some : goal.finish-requires-in-Worn-clause-some
finish-requires-in-Worn-clause-some c =
    (fits_now c.args.system.now c.args.place (seen c.args.rolling.now) c.requires.rolls c.in-Some.flight (seen c.take_flight.new.rolling) c.in-Some.ensures.some
    c.index_mut.result.now c.requires.there c.index_mut.ensures.value).1

pub returns-in-Again : goal.returns-in-Again
returns-in-Again c =
    waits_now c.args.system.now c.args.place (seen c.args.rolling.now) c.requires.rolls c.in-Some.flight (seen c.take_flight.new.rolling) c.in-Some.ensures.some
    c.index_mut.result.now c.requires.there c.index_mut.ensures.value c.step.new.self c.step.new.pass c.in-Again.cause
    (subst (λ answer. HasStepped c.args.system.now answer c.in-Some.flight.swap c.step.new.self c.index_mut.result.now c.step.new.pass) c.in-Again.is c.step.ensures)

pub returns-in-Ended : goal.returns-in-Ended
returns-in-Ended c =
    subst (λ (r : RollSeen). HasTurned c.args.system.now c.args.place (seen c.args.rolling.now) r) (sym c.finish.ensures)
    (ends_now c.args.system.now c.args.place (seen c.args.rolling.now) c.requires.rolls c.in-Some.flight (seen c.take_flight.new.rolling) c.in-Some.ensures.some
    c.index_mut.result.now c.requires.there c.index_mut.ensures.value c.step.new.self c.step.new.pass (Ok c.in-Ended.end)
    (subst (λ answer. HasStepped c.args.system.now answer c.in-Some.flight.swap c.step.new.self c.index_mut.result.now c.step.new.pass) c.in-Ended.is c.step.ensures))

pub returns-in-Memory : goal.returns-in-Memory
returns-in-Memory c =
    subst (λ (r : RollSeen). HasTurned c.args.system.now c.args.place (seen c.args.rolling.now) r) (sym c.finish-in-Memory.ensures)
    (ends_now c.args.system.now c.args.place (seen c.args.rolling.now) c.requires.rolls c.in-Some.flight (seen c.take_flight.new.rolling) c.in-Some.ensures.some
    c.index_mut.result.now c.requires.there c.index_mut.ensures.value c.step.new.self c.step.new.pass (Err Memory)
    (subst (λ answer. HasStepped c.args.system.now answer c.in-Some.flight.swap c.step.new.self c.index_mut.result.now c.step.new.pass) c.in-Memory.is c.step.ensures))

pub returns-in-Worn : goal.returns-in-Worn
returns-in-Worn c =
    subst (λ (r : RollSeen). HasTurned c.args.system.now c.args.place (seen c.args.rolling.now) r) (sym c.finish-in-Worn.ensures)
    (ends_now c.args.system.now c.args.place (seen c.args.rolling.now) c.requires.rolls c.in-Some.flight (seen c.take_flight.new.rolling) c.in-Some.ensures.some
    c.index_mut.result.now c.requires.there c.index_mut.ensures.value c.step.new.self c.step.new.pass (Err Worn)
    (subst (λ answer. HasStepped c.args.system.now answer c.in-Some.flight.swap c.step.new.self c.index_mut.result.now c.step.new.pass) c.in-Worn.is c.step.ensures))
