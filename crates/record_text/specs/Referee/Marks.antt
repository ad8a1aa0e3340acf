-- Numbers that are kept for each worker and object.
use Rattle.std.specs.Prelude.{◌≡◌, ℕ, ◌+◌, ◌*◌, ◌<◌, slice_index}
use Rattle.k42_limits.specs.declared.TheConstants.{CALLERS, OBJECTS}
use Rattle.record_text.specs.declared.judging.marks.Marks.{Marks}

-- the number that is kept for each worker and object is the one that the function says
pub record Shows (marks : Marks) (shown : ℕ → ℕ → ℕ) : Type 0 where
  pub each : (worker object : ℕ) → worker < CALLERS → object < OBJECTS
      → slice_index marks.cells (worker * OBJECTS + object) ≡ shown worker object
