use Rattle.std.proofs.Common.{rules}
use Rattle.k42_rule.proofs.tabling.look_up_step.Goals as goal

pub returns : goal.returns
returns g c = record {
  same = search rules;
  takes = rw (← c.pass.view_is, ← c.sys.view_is) c.look_up_word-found.ensures.takes;
}
