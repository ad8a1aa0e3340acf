use Rattle.std.proofs.Common.{rules}
use Rattle.k42_board.proofs.CellsAllowed.{held_each}
use Rattle.k42_rule.proofs.taking.take_into.Goals as goal

pub returns-clause-moved : goal.returns-clause-moved
returns-clause-moved g c = held_each c.take_cell.new.held (λ content is. record {
  same = search rules;
  out = rw (← c.pass.view_is, ← c.sys.view_is) is.out;
  back = rw (← c.pass.view_is, ← c.sys.view_is) is.back;
}) c.take_cell.ensures.taken

pub returns-clause-whole : goal.returns-clause-whole
returns-clause-whole g c = rw (← c.sys.view_is) c.take_cell.ensures.whole

pub returns-clause-row : goal.returns-clause-row
returns-clause-row g c = rw (← c.sys.view_is) c.take_cell.ensures.known
