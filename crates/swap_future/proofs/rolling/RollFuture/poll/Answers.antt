use Rattle.std.proofs.Common.{IsSomeAnd, Option, sym, subst, ◌∙◌}
use Rattle.swap_future.specs.Rolling.{HasRolled, seen}
use Rattle.swap_future.specs.Rounds.{HasFinished}
use Rattle.swap_future.specs.declared.rolling.Rolling.{Rolling}
use Rattle.swap_future.proofs.Rolls.{rolled_before}
use Rattle.swap_future.proofs.Turns.{rolled_now}
use Rattle.swap_future.proofs.rolling.RollFuture.poll.Goals as goal

pub returns-then-go_round-clause-value : goal.returns-then-go_round-clause-value
returns-then-go_round-clause-value c =
    let system = c.args.self.now.system.now in let old = c.in-Some.rolling in let new = c.go_round.new.rolling in
    let held = sym c.take.ensures.value ∙ c.in-Some.is in
    subst (λ (o : Option Rolling). IsSomeAnd o (λ rolling. HasRolled system (seen rolling) new.answers.items new.passes.items)) (sym held)
    (rolled_before system (seen old) (seen new) c.go_round.ensures.got_on new.answers.items new.passes.items
    (rolled_now system (seen new) c.go_round.ensures.rolls (c.go_round.ensures.none c.if-go_round.true)))

pub returns-clause-same : goal.returns-clause-same
returns-clause-same c =
    let system = c.args.self.now.system.now in let old = c.in-Some.rolling in let new = c.go_round.new.rolling in
    let held = sym c.take.ensures.value ∙ c.in-Some.is in
    rw c.yield_now.ensures.pending (λ end rolled. subst (λ (o : Option Rolling). IsSomeAnd o (λ rolling. HasRolled system (seen rolling) end.answers.items end.passes.items)) (sym held)
    (rolled_before system (seen old) (seen new) c.go_round.ensures.got_on end.answers.items end.passes.items rolled))

pub returns-then-go_round-clause-finished : goal.returns-then-go_round-clause-finished
returns-then-go_round-clause-finished c =
    let system = c.args.self.now.system.now in let new = c.go_round.new.rolling in
    let held = sym c.take.ensures.value ∙ c.in-Some.is in
    subst (λ (o : Option Rolling). IsSomeAnd o (λ rolling. HasFinished system (seen rolling) new.answers.items new.passes.items)) (sym held)
    (c.go_round.ensures.finished c.if-go_round.true)
