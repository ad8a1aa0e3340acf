-- What a worker saw of an object, before a line and after it.
use Rattle.std.specs.Prelude.{◌≡◌, ℕ, ◌+◌, ◌-◌, ◌^◌, ◌<◌, Bool, ◌&&◌, ◌==◌, nat_lt, List, [], ◌∷◌, length, drop, fold, Some, slice_get, if◌then◌else◌}
use Rattle.k42_limits.specs.declared.TheConstants.{CALLERS, OBJECTS}
use Rattle.k42_kinds.specs.Legal.{number_carried_out}
use Rattle.record_text.specs.declared.record.RecordLine.{RecordLine}

-- the worker and the object are among the most that a script may have
pub record IsPlaced (line : RecordLine) : Type 0 where
  pub worker : line.worker < CALLERS
  pub object : line.object < OBJECTS

abbrev pub is_of : ℕ → ℕ → RecordLine → Bool
is_of worker object line = (line.worker == worker) && (line.object == object)

abbrev pub least : ℕ → ℕ → ℕ
least one other = if nat_lt one other then one else other

abbrev pub greatest : ℕ → ℕ → ℕ
greatest one other = if nat_lt one other then other else one

-- the least incarnation in which the worker's lines of the object were answered
abbrev pub least_of : ℕ → ℕ → List RecordLine → ℕ
least_of worker object [] = 2 ^ 32 - 1
least_of worker object (line ∷ lines) =
    if is_of worker object line
    then least line.incarnation (least_of worker object lines)
    else least_of worker object lines

-- the numbers are those of the lines behind each line
pub record AreLeast (lines : List RecordLine) (numbers : List ℕ) : Type 0 where
  pub size : length numbers ≡ length lines
  pub each : (place : ℕ) (line : RecordLine) → slice_get lines place ≡ Some line
      → slice_get numbers place
      ≡ Some (least_of line.worker line.object (drop (place + 1) lines))

-- how far an entry shows the object's swaps to be: by its incarnation, and by its own swap
abbrev pub reach_of : RecordLine → ℕ
reach_of line = greatest line.incarnation (number_carried_out line.answer)

abbrev pub reach_after : ℕ → ℕ → ℕ → RecordLine → ℕ
reach_after worker object reach line =
    if is_of worker object line then greatest reach (reach_of line) else reach

-- the furthest that the worker's lines of the object show
abbrev pub furthest_of : ℕ → ℕ → List RecordLine → ℕ
furthest_of worker object lines = fold (reach_after worker object) 0 lines
