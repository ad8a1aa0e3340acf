use Rattle.std.proofs.Common.{◌≡◌, ◌<◌, ◌≤◌, ◌+◌, ◌-◌, ◌*◌, ◌^◌, ℕ, suc, rules, subst}
use Rattle.k42_handles.proofs.Missed.{doubled}
use Rattle.k42_handles.proofs.missing.+missing_from.Goals as goal

pub returns-clause-few : goal.returns-clause-few
returns-clause-few t c =
    let bit : c.from.result ≤ 1 = search rules in
    let more : suc (c.args.count - 1) ≡ c.args.count = search rules in
    subst (λ (n : ℕ). c.missing_from-others.result * 2 + c.from.result < 2 ^ n) more (doubled c.missing_from-others.result c.from.result (c.args.count - 1) bit c.missing_from-others.ensures.few)
