-- The numbers of the lines that ask something.
use Rattle.std.specs.Prelude.{ℕ, ◌<◌, List, [], length, map, slice_index_or}
use Rattle.script_text.specs.Lawful.{call_lines}
use Rattle.script_text.specs.declared.script.Item.{Item}
use Rattle.script_text.specs.declared.script.Script.{Script}

-- the numbers of a worker's lines that ask something, in their order
abbrev pub line_numbers : List Item → List ℕ
line_numbers items = map (λ line. line.line) (call_lines items)

-- the same of each worker
abbrev pub all_line_numbers : Script → List (List ℕ)
all_line_numbers script = map (λ worker. line_numbers worker.items) script.workers

-- the numbers of this worker
abbrev pub numbers_at : List (List ℕ) → ℕ → List ℕ
numbers_at numbers worker = slice_index_or numbers worker []

-- there is a number at this place of this worker's
pub record HasNumber (numbers : List (List ℕ)) (caller place : ℕ) : Type 0 where
  pub worker : caller < length numbers
  pub index : place < length (numbers_at numbers caller)
