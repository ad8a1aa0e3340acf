use Rattle.std.proofs.Common.{◌≡◌}
use Rattle.k42_board.specs.Seen.{PassSeen}
use Rattle.k42_rule.proofs.RaisedClocks.{at_first, each_first, first_low, first_put}
use Rattle.k42_rule.proofs.sections.tell_first.Goals as goal

pub tell-requires-clause-ours : goal.tell-requires-clause-ours
tell-requires-clause-ours g c κs within =
    let first = at_first c.args.passes.now c.in_ok-first.first.now c.in_ok-first.ensures.item.0 c.in_ok-first.ensures.item.1 in
    each_first (λ (pass : PassSeen _ _ _). pass.table ≡ c.args.sys.now.table) _ _ _ first.1 c.requires.ours

pub returns-clause-same : goal.returns-clause-same
returns-clause-same g c = first_put c.args.passes.now c.in_ok-first.first.now c.tell.new.pass c.in_ok-first.ensures.item.0 c.in_ok-first.ensures.item.1 c.tell.ensures.same

pub returns-clause-cases : goal.returns-clause-cases
returns-clause-cases g c =
    let first = at_first c.args.passes.now c.in_ok-first.first.now c.in_ok-first.ensures.item.0 c.in_ok-first.ensures.item.1 in
    (c.tell.ensures.tells, first_low c.args.passes.now first.0 c.in_ok-first.first.now c.tell.result.stamp first.1 c.tell.ensures.clock)
