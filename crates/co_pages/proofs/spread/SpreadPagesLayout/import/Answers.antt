use Rattle.std.proofs.Common.{rules, sym, subst}
use Rattle.co_pages.specs.SpreadRows.{IsSpread}
use Rattle.co_pages.specs.RowLaws.{no_cells, still_spread}
use Rattle.co_pages.proofs.spread.SpreadPagesLayout.import.Goals as goal

pub loop-number-init : goal.loop-number-init
loop-number-init c = record {
  whole = subst (IsSpread c.args.procs) (sym c.in_ok-parts.ensures) (no_cells c.args.procs);
  left = search rules;
}

pub loop-number-preserved : goal.loop-number-preserved
loop-number-preserved c = record {
  whole = subst (IsSpread c.args.procs) (sym c.in_ok-put.ensures.ok) (still_spread c.args.procs _ _ c.loop-number.invariant.whole);
  left = search rules;
}
