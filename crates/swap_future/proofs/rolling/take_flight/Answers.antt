use Rattle.std.proofs.Common.{arith}
use Rattle.swap_future.specs.Rolling.{seen}
use Rattle.swap_future.proofs.AtHand.{none_there, next_there}
use Rattle.swap_future.proofs.rolling.take_flight.Goals as goal

pub returns-then-rolling-len-clause-none : goal.returns-then-rolling-len-clause-none
returns-then-rolling-len-clause-none c = λ e.
    none_there (seen c.args.rolling.now) c.args.place c.requires.there c.index_mut.result.now c.replace.result c.replace.new.dest c.index_mut.ensures.value
    c.replace.ensures.value c.in_default.not-Some c.replace.ensures.after
    (let many = c.len.ensures in let all = c.if-rolling-len.true in omega (arith, many, all))

pub returns-clause-some : goal.returns-clause-some
returns-clause-some c =
    next_there (seen c.args.rolling.now) c.args.place c.requires.there c.index_mut.result.now c.replace.result c.replace.new.dest c.index_mut.ensures.value
    c.replace.ensures.value c.in_default.not-Some c.replace.ensures.after c.new.result c.index.result.now
    (let many = c.len.ensures in let some = c.if-rolling-len.false in omega (arith, many, some)) c.index.ensures c.new.ensures
