use Rattle.std.proofs.Common.{◌≡◌, fold, drop}
use Rattle.co_pages.specs.SpreadRows.{cell_put_in, collected}
use Rattle.co_pages.proofs.spread.SpreadPagesLayout.export.Given as goal

abbrev pub invariant-loop-part : goal.invariant-loop-part
invariant-loop-part l = fold cell_put_in l.pages (drop l.part-index l.part-items) ≡ collected l.part-items
