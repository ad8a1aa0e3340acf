use Rattle.std.proofs.Common.{◌≡◌, ◌≤◌}
use Rattle.k42_kinds.specs.Rows.{made_from}
use Rattle.co_pages.specs.Places.{no_places}
use Rattle.co_pages.proofs.spread.no_pages.Given as goal

abbrev pub invariant-loop-cell : goal.invariant-loop-cell
invariant-loop-cell l = record {
  made : l.parts.items ≡ made_from (no_places l.procs) 0 l.cell;
  within : l.cell ≤ l.procs;
}
