use Rattle.std.proofs.Common.{◌≡◌, ◌+◌, ◌≤◌, ◌<◌, sym, ap, ◌∙◌, subst}
use Rattle.std.specs.Option.{unwrap_or}
use Rattle.k42_board.specs.Freeing.{number_noted}
use Rattle.k42_quiesce.proofs.Sweeping.{sweeps_none, sweeps_past, sweeps_row}
use Rattle.k42_quiesce.proofs.reclaiming.sweep.Goals as goal

pub returns-in_default-clause-sweeps : goal.returns-in_default-clause-sweeps
returns-in_default-clause-sweeps g c = sweeps_none _ _ _ (sym c.noted.ensures ∙ c.in_default.is)

pub returns-then-found-from-clause-sweeps : goal.returns-then-found-from-clause-sweeps
returns-then-found-from-clause-sweeps g c =
    sweeps_past _ _ c.free-found.result c.in-Some.number _ _ (sym c.noted.ensures ∙ c.in-Some.is) c.free-found.ensures.takes.knows
    (subst (λ n. n ≤ c.free-found.result) c.from.ensures c.if-found-from.true)

pub returns-clause-sweeps : goal.returns-clause-sweeps
returns-clause-sweeps g c =
    let number : number_noted c.args.pass.now.view c.args.object ≡ c.in-Some.number = ap (λ note. unwrap_or note 0) (sym c.noted.ensures ∙ c.in-Some.is) in
    let one : c.free-found.result + 1 ≡ c.in-Some.number =
    c.free-found.ensures.takes.finds.short (subst (λ n. c.free-found.result < n) (c.from.ensures ∙ sym number) c.if-found-from.false) ∙ number in
    sweeps_row _ _ c.free-found.result c.in-Some.number _ _ (sym c.noted.ensures ∙ c.in-Some.is) c.free-found.ensures.takes.knows _ one
    c.empty_row.ensures.knows
