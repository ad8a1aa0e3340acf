use Rattle.std.proofs.Common.{◌≡◌, ◌*◌, ◌^◌, ◌≤◌, length, take}
use Rattle.co_pages.specs.SpreadRows.{dirty_of}
use Rattle.co_pages.proofs.spread.dirty.Given as goal

abbrev pub invariant-loop-cell : goal.invariant-loop-cell
invariant-loop-cell l = record {
  sized : length l.parts ≡ l.procs;
  counted : l.dirty ≡ dirty_of (take l.cell l.parts);
  few : l.dirty ≤ l.cell * 2 ^ 16;
}
