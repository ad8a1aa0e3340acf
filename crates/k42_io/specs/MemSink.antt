use Rattle.std.specs.Prelude.{ℕ, List}
use Rattle.k42_io.specs.Schedule.{Calls, new_calls, after_call, after_fault}
use Rattle.k42_io.specs.Storage.{Shelf, empty_shelf, after_store}

-- what is stored, how many bytes a write takes at most, and the writes
pub record Intake : Type 0 where
  pub shelf : Shelf
  pub piece : ℕ
  pub writes : Calls

-- before the first write
abbrev pub new_intake : ℕ → ℕ → List ℕ → Intake
new_intake room piece failing =
    record { shelf = empty_shelf room; piece = piece; writes = new_calls failing }

-- after a write that took these bytes
abbrev pub after_write : Intake → List ℕ → Intake
after_write intake bytes =
    record intake { shelf = after_store intake.shelf bytes; writes = after_call intake.writes }

-- after a write that failed
abbrev pub after_failed_write : Intake → Intake
after_failed_write intake = record intake { writes = after_fault intake.writes }
