use Rattle.std.proofs.Common.{rules, ◌≡◌, ap}
use Rattle.k42_board.specs.Seen.{IsSamePass}
use Rattle.k42_quiesce.specs.Gracing.{has_role}
use Rattle.k42_quiesce.specs.declared.steps.GraceStep.TheVariants.{Quiet}
use Rattle.k42_quiesce.proofs.Tries.{untried, again, goes_from}
use Rattle.k42_quiesce.proofs.waiting.grace.Goals as goal

pub loop-init : goal.loop-init
loop-init g c = (c.requires.ours, search rules, untried _ _ _ _ _ c.new-grace.ensures c.requires.may)

pub loop-preserved : goal.loop-preserved
loop-preserved g c =
    let same : IsSamePass c.args.pass.now c.step.new.pass = search rules in
    let busy : c.step.result ≡ Quiet → ⊥ = search rules in (
      c.step.ensures.ours,
      same,
      again _ _ _ _ c.loop.pass.seat c.loop.invariant.1.seat _ _ c.loop.grace _ c.step.result c.loop.invariant.2 busy c.step.ensures.left c.step.ensures.role_held
          c.step.ensures.goes c.step.ensures.takes,
    )

pub returns-then-eq-clause-graced : goal.returns-then-eq-clause-graced
returns-then-eq-clause-graced g c =
    let quiet : c.step.result ≡ Quiet = search rules in
    goes_from _ _ _ _ c.loop.pass.seat c.loop.invariant.1.seat _ _ c.loop.grace c.loop.invariant.2 (λ none. c.step.ensures.takes none (ap has_role quiet))
    (c.step.ensures.goes (ap has_role quiet)).0
