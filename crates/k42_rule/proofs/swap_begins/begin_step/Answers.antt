use Rattle.std.proofs.Common.{rules}
use Rattle.k42_rule.proofs.swap_begins.begin_step.Goals as goal

pub returns-then-is_swapped : goal.returns-then-is_swapped
returns-then-is_swapped g c = record {
  same = search rules;
  takes = rw (← c.pass.view_is, ← c.sys.view_is) c.begin_word-found.ensures.takes;
}

pub returns : goal.returns
returns g c = record {
  same = search rules;
  takes = rw (← c.pass.view_is, ← c.sys.view_is) c.begin_word-found.ensures.takes;
}
