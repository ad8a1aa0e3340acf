use Rattle.std.proofs.Common.{◌≡◌, ℕ, length, subst, arith}
use Rattle.std.proofs.lemmas.Bool.{ltb-false}
use Rattle.swap_future.specs.Rolling.{seen}
use Rattle.swap_future.proofs.RoundLemmas.{IsRoundTo, no_turn, next_turn, gone_round, ended_none}
use Rattle.swap_future.proofs.rolling.round.Goals as goal

pub loop-place-init : goal.loop-place-init
loop-place-init c = no_turn c.args.system.now (seen c.args.rolling.now) c.requires.rolls

pub loop-place-preserved : goal.loop-place-preserved
loop-place-preserved c =
    next_turn c.args.system.now c.loop-place.place (seen c.args.rolling.now) (seen c.loop-place.rolling) (seen c.turn.new.rolling) c.loop-place.invariant c.turn.ensures

pub returns-clause-round : goal.returns-clause-round
returns-clause-round c =
    let end = c.loop-place-test.false in let before = c.loop-place.auto.place-end in let many = c.len-place-end.ensures in
    let all : c.loop-place.place ≡ length c.args.rolling.now.passes.items = omega (arith, end, before, many) in
    gone_round c.args.system.now (seen c.args.rolling.now) (seen c.loop-place.rolling)
    (subst (λ (n : ℕ). IsRoundTo c.args.system.now n (seen c.args.rolling.now) (seen c.loop-place.rolling)) all c.loop-place.invariant)

pub returns-clause-none : goal.returns-clause-none
returns-clause-none c = λ none.
    let end = c.loop-place-test.false in let before = c.loop-place.auto.place-end in let many = c.len-place-end.ensures in
    let all : c.loop-place.place ≡ length c.args.rolling.now.passes.items = omega (arith, end, before, many) in
    let same : c.loop-place.rolling.left ≡ c.args.rolling.now.left =
    (let fewer = c.loop-place.invariant.fewer in let least = ltb-false c.loop-place.rolling.left c.args.rolling.now.left none in omega (arith, fewer, least)) in
    ended_none c.args.system.now (seen c.args.rolling.now) (seen c.loop-place.rolling)
    (subst (λ (n : ℕ). IsRoundTo c.args.system.now n (seen c.args.rolling.now) (seen c.loop-place.rolling)) all c.loop-place.invariant)
    c.requires.some same
