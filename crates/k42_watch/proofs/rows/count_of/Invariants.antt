use Rattle.std.proofs.Common.{◌≡◌, ◌+◌, ◌%◌, ◌^◌, drop}
use Rattle.k42_watch.specs.WatchedRows.{seens, total}
use Rattle.k42_watch.proofs.rows.count_of.Given as goal

abbrev pub invariant-loop-part : goal.invariant-loop-part
invariant-loop-part g l = (l.total + total (seens (drop l.part-index l.parts))) % 2 ^ 64 ≡ total (seens l.parts) % 2 ^ 64
