use Rattle.std.proofs.Common.{◌≤◌, subst}
use Rattle.table_laws.proofs.Keeping.{later_stamp}
use Rattle.table_laws.proofs.kept.what_follows_a_section_is_later.Goals as goal

pub returns-clause-drawn : goal.returns-clause-drawn
returns-clause-drawn g c cells =
    later_stamp c.args.pass.now.view cells c.args.pass.now.keep.since
    (subst (λ n. n ≤ c.args.pass.now.view.taker.clock) c.since.ensures.is c.since.ensures.passed)
