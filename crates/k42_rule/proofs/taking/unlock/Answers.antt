use Rattle.std.proofs.Common.{rules}
use Rattle.k42_rule.proofs.taking.unlock.Goals as goal

pub returns : goal.returns
returns g c = λ found. let taken = c.unlock_cell.ensures found in record {
  same = search (rules, taken);
  takes = rw (← c.pass.view_is, ← c.sys.view_is) taken.takes;
}

pub invariant_of-pass : goal.invariant_of-pass
invariant_of-pass g c = let taken = c.unlock_cell.ensures 0 in search (rules, taken)
