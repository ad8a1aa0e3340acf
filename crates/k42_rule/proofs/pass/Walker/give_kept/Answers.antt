use Rattle.std.proofs.Common.{◌≤◌, length, sym, subst}
use Rattle.k42_limits.specs.declared.TheConstants.{PASS_ENTRIES}
use Rattle.k42_log.specs.Logs.{LogSeen}
use Rattle.k42_rule.proofs.KeptNext.{kept_few}
use Rattle.k42_rule.proofs.pass.Walker.give_kept.Goals as goal

pub returns-clause-few : goal.returns-clause-few
returns-clause-few g c =
    let self = c.self.inside in
    subst (λ (log : LogSeen _ _). length log.entries ≤ PASS_ENTRIES) (sym c.replace.ensures.value) (kept_few _ self.number self.home _ self.clock self.kept c.self.invariant.13)
