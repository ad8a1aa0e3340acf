use Rattle.std.proofs.Common.{sym, ◌∙◌}
use Rattle.k42_mediator.proofs.AfterKnock.{let_in, kept_out}
use Rattle.k42_mediator.proofs.knocking.knock.Goals as goal

pub returns-then-is_blocked-clause-knocked : goal.returns-then-is_blocked-clause-knocked
returns-then-is_blocked-clause-knocked g c =
    kept_out _ _ _ _ _ _ _ c.knock_step-found.ensures.takes _ _
    (sym c.is_blocked.ensures ∙ c.if-is_blocked.true) c.step_out.ensures.takes.knows

pub returns-clause-knocked : goal.returns-clause-knocked
returns-clause-knocked g c =
    let_in _ _ _ _ _ _ _ c.knock_step-found.ensures.takes _ c.incarnation_in.ensures
    (sym c.is_blocked.ensures ∙ c.if-is_blocked.false)
