use Rattle.std.proofs.Common.{rules}
use Rattle.k42_rule.proofs.swapping.turn_over.Goals as goal

pub returns : goal.returns
returns g c = record {
  same = search rules;
  takes = rw (← c.pass.view_is, ← c.sys.view_is) c.turn_word-found.ensures.takes;
}
