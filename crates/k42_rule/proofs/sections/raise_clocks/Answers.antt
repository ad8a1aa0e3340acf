use Rattle.std.proofs.Common.{◌≡◌, sym, subst}
use Rattle.k42_places.specs.Places.{EachPlace}
use Rattle.k42_board.specs.Seen.{PassSeen}
use Rattle.k42_rule.proofs.RaisedClocks.{raised_twice, skipped_ours}
use Rattle.k42_rule.proofs.sections.raise_clocks.Goals as goal

pub skip_on-greatest-requires-clause-ours : goal.skip_on-greatest-requires-clause-ours
skip_on-greatest-requires-clause-ours g c κs within =
    subst (EachPlace (λ place (pass : PassSeen _ _ _). pass.table ≡ c.args.sys.now.table)) (sym c.tell_first.ensures.same) c.requires.ours

pub skip_on-requires-clause-ours : goal.skip_on-requires-clause-ours
skip_on-requires-clause-ours g c κs within =
    subst (EachPlace (λ place (pass : PassSeen _ _ _). pass.table ≡ c.args.sys.now.table)) (sym c.skip_on-greatest.ensures.passes)
    (skipped_ours c.args.sys.now.table c.in-Some.telling.stamp _
    (subst (EachPlace (λ place (pass : PassSeen _ _ _). pass.table ≡ c.args.sys.now.table)) (sym c.tell_first.ensures.same) c.requires.ours))

pub returns : goal.returns
returns g c =
    raised_twice c.args.passes.now c.tell_first.new.passes c.skip_on-greatest.new.passes c.skip_on.new.passes c.in-Some.telling.stamp c.skip_on-greatest.result.stamp
    c.tell_first.ensures.same c.in-Some.ensures.cases.1 c.skip_on-greatest.ensures.passes c.skip_on-greatest.ensures.greatest c.skip_on.ensures.passes
