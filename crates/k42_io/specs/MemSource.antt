use Rattle.std.specs.Prelude.{ℕ, List, drop}
use Rattle.k42_io.specs.Schedule.{Calls, new_calls, after_call, after_fault}

-- the bytes that are left, how many a read gives at most, and the reads
pub record Supply : Type 0 where
  pub left : List ℕ
  pub piece : ℕ
  pub reads : Calls

-- before the first read
abbrev pub new_supply : List ℕ → ℕ → List ℕ → Supply
new_supply bytes piece failing = record { left = bytes; piece = piece; reads = new_calls failing }

-- after a read that gave n bytes
abbrev pub after_read : Supply → ℕ → Supply
after_read supply n = record supply { left = drop n supply.left; reads = after_call supply.reads }

-- after a read that failed
abbrev pub after_failed_read : Supply → Supply
after_failed_read supply = record supply { reads = after_fault supply.reads }
