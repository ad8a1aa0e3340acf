use Rattle.std.proofs.Common.{rules}
use Rattle.k42_rule.proofs.gracing.flip.Goals as goal

pub returns : goal.returns
returns g c = record {
  same = search rules;
  takes = rw (← c.pass.view_is, ← c.sys.view_is) c.flip_swap-found.ensures.takes;
}
