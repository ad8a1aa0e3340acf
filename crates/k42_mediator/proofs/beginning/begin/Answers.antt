use Rattle.std.proofs.Common.{◌≡◌, ap, ◌∙◌}
use Rattle.k42_board.specs.Log.{Extends}
use Rattle.k42_board.specs.Seen.{PassSeen}
use Rattle.k42_board.proofs.Gained.{extends_as, extends_same}
use Rattle.k42_mediator.proofs.Tried.{clear_last, clear_extends, tried}
use Rattle.k42_mediator.proofs.beginning.begin.Goals as goal
use Rattle.k42_mediator.proofs.beginning.begin.Goals.{in-Refused, in_default}

pub returns-clause-begun : goal.returns-clause-begun
returns-clause-begun g c =
    let mid = c.begin_step-found.new.pass.view in let new = c.match-swap.pass.view in
    let last : new.last ≡ mid.last =
    elim c.match-swap.branch [
      | in-Refused w ↦ ap (λ (p : PassSeen _ _ _). p.view.last) w.pass-is ∙ clear_last _ _ _ _ w.clear_step.ensures.takes.knows
      | in_default w ↦ ap (λ (p : PassSeen _ _ _). p.view.last) w.pass-is
    ] in
    let extends : Extends mid.log new.log =
    elim c.match-swap.branch [
      | in-Refused w ↦ extends_as (ap (λ (p : PassSeen _ _ _). p.view.log) w.pass-is) (clear_extends _ _ _ _ w.clear_step.ensures.takes.knows)
      | in_default w ↦ extends_as (ap (λ (p : PassSeen _ _ _). p.view.log) w.pass-is) (extends_same mid.log)
    ] in
    tried _ _ _ _ _ _ _ c.begin_step-found.ensures.takes new last extends
