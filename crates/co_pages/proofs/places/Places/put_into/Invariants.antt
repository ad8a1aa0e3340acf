use Rattle.std.proofs.Common.{◌≡◌, ◌+◌, ◌*◌, ◌^◌, ◌<◌, fold, drop, length}
use Rattle.co_pages.specs.PutIn.{put_in}
use Rattle.co_pages.specs.Places.{numbered}
use Rattle.co_pages.specs.SpreadRows.{cell_put_in}
use Rattle.co_pages.proofs.places.Places.put_into.Given as goal

abbrev pub invariant-loop-place : goal.invariant-loop-place
invariant-loop-place l = record {
  left : fold put_in l.all (numbered l.self-inside.procs l.number (drop l.place-index l.place-items)) ≡ cell_put_in l.initial.all l.self;
  short : l.number + length (drop l.place-index l.place-items) * l.self-inside.procs < 2 ^ 16 + l.self-inside.procs;
}
