use Rattle.std.proofs.Common.{◌≡◌, ◌++◌, take}
use Rattle.std.specs.Prelude.{vec_capacity}
use Rattle.log_tests.proofs.badge.push_all.Given as goal

abbrev pub invariant-loop-byte : goal.invariant-loop-byte
invariant-loop-byte l = record {
  items : l.bytes.items ≡ l.initial.bytes.items ++ take l.byte-index l.more;
  room : vec_capacity l.bytes ≡ vec_capacity l.initial.bytes;
}
