use Rattle.std.proofs.Common.{rules}
use Rattle.k42_rule.proofs.sections.skip.Goals as goal

pub invariant_of-pass : goal.invariant_of-pass
invariant_of-pass g c =
    let old = c.pass.invariant in
    (search rules, old.1, old.2, old.3, old.4, old.5, old.6, old.7, search rules, old.9, old.10, old.11, old.12, search rules, search rules, search rules, old.16, old.17, search rules, old.19, old.20)
