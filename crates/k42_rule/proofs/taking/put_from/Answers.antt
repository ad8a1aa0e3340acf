use Rattle.std.proofs.Common.{rules}
use Rattle.k42_board.proofs.CellsAllowed.{held_one, held_each, held_is}
use Rattle.k42_rule.proofs.taking.put_from.Goals as goal

pub returns-clause-put : goal.returns-clause-put
returns-clause-put g c = held_each c.args.held.now (λ content is. record {
  same = search rules;
  out = rw (← c.pass.view_is, ← c.sys.view_is) is.out;
  back = rw (← c.pass.view_is, ← c.sys.view_is) is.back;
}) c.put_cell.ensures.put

pub invariant_of-pass : goal.invariant_of-pass
invariant_of-pass g c =
    let one = held_one c.args.held.now c.requires.may in let moved = held_is _ c.args.held.now one.0 one.1 c.put_cell.ensures.put in
    search (rules, moved)
