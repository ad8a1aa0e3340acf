use Rattle.std.proofs.Common.{rules}
use Rattle.k42_rule.proofs.tabling.knock_step.Goals as goal

pub returns-then-is_blocked : goal.returns-then-is_blocked
returns-then-is_blocked g c = record {
  same = search rules;
  takes = rw (← c.pass.view_is, ← c.sys.view_is) c.knock_word-found.ensures.takes;
}

pub returns-else-is_blocked : goal.returns-else-is_blocked
returns-else-is_blocked g c = record {
  same = search rules;
  takes = rw (← c.pass.view_is, ← c.sys.view_is) c.knock_word-found.ensures.takes;
}
