use Rattle.std.proofs.Common.{rules}
use Rattle.k42_rule.proofs.tabling.install_step.Goals as goal

pub returns-then-found-old : goal.returns-then-found-old
returns-then-found-old g c = record {
  same = search rules;
  takes = rw (← c.pass.view_is, ← c.sys.view_is) c.install_word-found.ensures.takes;
}

pub returns-else-found-old : goal.returns-else-found-old
returns-else-found-old g c = record {
  same = search rules;
  takes = rw (← c.pass.view_is, ← c.sys.view_is) c.install_word-found.ensures.takes;
}
