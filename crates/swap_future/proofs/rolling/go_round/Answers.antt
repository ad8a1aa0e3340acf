use Rattle.std.proofs.Common.{suc, refl, arith}
use Rattle.swap_future.specs.Rolling.{seen}
use Rattle.swap_future.proofs.Rolls.{stays, then}
use Rattle.swap_future.proofs.rolling.go_round.Goals as goal

pub loop-rolling-init : goal.loop-rolling-init
loop-rolling-init c = (c.requires, stays c.args.system.now (seen c.args.rolling.now), 0, refl)

pub returns-then-not-round-clause-got_on : goal.returns-then-not-round-clause-got_on
returns-then-not-round-clause-got_on c =
    then c.args.system.now (seen c.args.rolling.now) (seen c.loop-rolling.rolling) (seen c.round.new.rolling) c.loop-rolling.invariant.1 c.round.ensures.round.got_on

pub returns-then-not-round-clause-held_up : goal.returns-then-not-round-clause-held_up
returns-then-not-round-clause-held_up c = λ e. record {
  rounds = c.loop-rolling.invariant.2;
  mid = seen c.loop-rolling.rolling;
  before = c.loop-rolling.invariant.3;
  last = c.round.ensures.round;
  waits = c.round.ensures.none c.if-not-round.true;
}

pub loop-rolling-preserved : goal.loop-rolling-preserved
loop-rolling-preserved c = (
  c.round.ensures.round.rolls,
  then c.args.system.now (seen c.args.rolling.now) (seen c.loop-rolling.rolling) (seen c.round.new.rolling) c.loop-rolling.invariant.1 c.round.ensures.round.got_on,
  suc c.loop-rolling.invariant.2,
  (seen c.loop-rolling.rolling, c.loop-rolling.invariant.3, c.round.ensures.round, c.round.ensures.ended c.if-not-round.false),
)

pub returns-clause-finished : goal.returns-clause-finished
returns-clause-finished c = λ e. record {
  rounds = c.loop-rolling.invariant.2;
  last = seen c.loop-rolling.rolling;
  gone = c.loop-rolling.invariant.3;
  none = let none = c.loop-rolling-test.false in omega (arith, none);
  answers_are = refl;
  passes_are = refl;
}
