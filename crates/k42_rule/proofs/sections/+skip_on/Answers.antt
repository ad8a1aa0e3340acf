use Rattle.std.proofs.Common.{◌≡◌, ap, ◌∙◌}
use Rattle.k42_board.specs.Seen.{PassSeen}
use Rattle.k42_rule.proofs.RaisedClocks.{each_first, each_other}
use Rattle.k42_rule.proofs.sections.+skip_on.Goals as goal

pub skip-requires-clause-ours : goal.skip-requires-clause-ours
skip-requires-clause-ours g t c κs within =
    each_first (λ (pass : PassSeen _ _ _). pass.table ≡ c.args.sys.now.table) _ _ _ c.in-Some.ensures.cases.0 c.requires.ours

pub tell-own-requires-clause-ours : goal.tell-own-requires-clause-ours
tell-own-requires-clause-ours g t c κs within =
    ap (λ (pass : PassSeen _ _ _). pass.table) c.skip.ensures
    ∙ each_first (λ (pass : PassSeen _ _ _). pass.table ≡ c.args.sys.now.table) _ _ _ c.in-Some.ensures.cases.0 c.requires.ours

pub skip_on-requires-clause-ours : goal.skip_on-requires-clause-ours
skip_on-requires-clause-ours g t c κs within =
    each_other (λ (pass : PassSeen _ _ _). pass.table ≡ c.args.sys.now.table) _ _ _ c.in-Some.ensures.cases.0 c.requires.ours
