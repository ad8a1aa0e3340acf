use Rattle.std.proofs.Common.{◌≡◌, fold}
use Rattle.co_pages.specs.SpreadRows.{IsSpread, placed, spread}
use Rattle.co_pages.proofs.spread.SpreadPagesLayout.import.Given as goal

abbrev pub invariant-loop-number : goal.invariant-loop-number
invariant-loop-number l = record {
  whole : IsSpread l.procs l.parts.items;
  left : fold placed l.parts.items l.number-iterator ≡ spread.imported l.procs l.state;
}
