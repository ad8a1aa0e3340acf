use Rattle.std.proofs.Common.{◌≡◌, length}
use Rattle.k42_stamp.proofs.Numbering.{numbered_up_to}
use Rattle.k42_stamp.proofs.merging.number.Given as goal

abbrev pub invariant-loop-place : goal.invariant-loop-place
invariant-loop-place g l = record {
  items : l.entries.items ≡ numbered_up_to l.initial.first l.place l.initial.entries.items;
  end : l.place-end ≡ length l.initial.entries.items;
}
