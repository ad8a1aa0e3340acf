-- A script of any length for trials: 4 workers share N steps over a counter, a directory and pages.
use Rattle.std.specs.Prelude.{ℕ, zero, suc, ◌+◌, ◌*◌, ◌/◌, ◌%◌, ◌^◌, ◌==◌, if◌then◌else◌, List, [], ◌∷◌, ◌++◌, length, map, filter, codes}
use Rattle.std.specs.List.{range_with_len}
use Rattle.std.specs.Fmt.{decimal}
use Rattle.k42_kinds.specs.declared.entry.Act.TheVariants.{Call, Swap}
use Rattle.k42_kinds.specs.declared.entry.To.TheVariants.{Layout}
use Rattle.k42_kinds.specs.declared.operation.KindName.TheVariants.{Counter, Directory, Pages}
use Rattle.k42_kinds.specs.declared.operation.LayoutName.{LayoutName}
use Rattle.k42_kinds.specs.declared.operation.LayoutName.TheVariants.{Shared, Spread}
use Rattle.k42_kinds.specs.Operations.{layout_number}
use Rattle.k42_kinds.specs.declared.operation.Op.TheVariants.{Add, Bind, Write}
use Rattle.k42_limits.specs.declared.TheConstants.{PAGES}
use Rattle.script_text.specs.declared.script.CallLine.{CallLine}
use Rattle.script_text.specs.declared.script.Item.{Item}
use Rattle.script_text.specs.declared.script.Item.TheVariants.{Line}
use Rattle.script_text.specs.declared.script.ObjectLine.{ObjectLine}
use Rattle.script_text.specs.declared.script.Script.{Script}
use Rattle.script_text.specs.declared.script.WorkerLines.{WorkerLines}

-- the objects, in their order
abbrev pub objects : List ObjectLine
objects =
    record { name = codes "hits"; kind = Counter; layout = Shared }
    ∷ record { name = codes "names"; kind = Directory; layout = Shared }
    ∷ record { name = codes "cache"; kind = Pages; layout = Shared } ∷ []

-- their places
abbrev pub hits : ℕ
hits = 0

abbrev pub names : ℕ
names = 1

abbrev pub cache : ℕ
cache = 2

-- the number behind this one, by a linear congruence
abbrev pub next_drawn : ℕ → ℕ
next_drawn number = (number * 6364136223846793005 + 1442695040888963407) % 2 ^ 64

-- the number of step k; before the first step it is N
abbrev pub drawn : ℕ → ℕ → ℕ
drawn n zero = n
drawn n (suc k) = next_drawn (drawn n k)

-- the value of step k: the upper 32 bits of its number
abbrev pub value_at : ℕ → ℕ → ℕ
value_at n k = drawn n k / 2 ^ 32

-- the layout of a swap at step k, which is another at each thousand
abbrev pub layout_at : ℕ → LayoutName
layout_at k = if k / 1000 % 2 == 0 then Spread else Shared

-- the line of this number, which swaps an object at step k
abbrev pub swap_line : ℕ → ℕ → ℕ → CallLine
swap_line number k object =
    record { line = number; object = object; act = Swap (Layout (layout_number (layout_at k))) }

-- the line of this number, which calls the three objects by turns at step k with this value
abbrev pub call_line : ℕ → ℕ → ℕ → CallLine
call_line number k value =
    if k / 4 % 3 == 0
    then record { line = number; object = hits; act = Call (Add value) }
    else if k / 4 % 3 == 1
    then record {
      line = number;
      object = names;
      act = Call (Bind (codes "n" ++ decimal (value % 100)) k);
    }
    else record {
      line = number;
      object = cache;
      act = Call (Write (value % PAGES) (codes "v" ++ decimal k));
    }

-- the line of this number, which is step k with this value: of a thousand, three are swaps
abbrev pub step_line : ℕ → ℕ → ℕ → CallLine
step_line number k value =
    if k % 1000 == 0 then swap_line number k hits
    else if k % 1000 == 252 then swap_line number k cache
    else if k % 1000 == 500 then swap_line number k names else call_line number k value

-- the steps of a worker up to step n, in their order: every fourth
abbrev pub steps_of : ℕ → ℕ → List ℕ
steps_of worker n = filter (λ k. k % 4 == worker) (range_with_len 1 n)

-- the lines of these steps, of which the first has this number
abbrev pub step_items : ℕ → ℕ → List ℕ → List Item
step_items n number [] = []
step_items n number (k ∷ steps) =
    Line (step_line number k (value_at n k)) ∷ step_items n (number + 1) steps

-- The number of the line that declares a worker: line 1 declares the processors and lines 2 to 4
-- the objects, and the lines of a worker stand behind those of the worker before it.
abbrev pub worker_line : ℕ → ℕ → ℕ
worker_line n zero = 5
worker_line n (suc worker) = worker_line n worker + 1 + length (steps_of worker n)

-- a worker, declared on the line of this number, with its steps behind it
abbrev pub worker_lines : ℕ → ℕ → ℕ → WorkerLines
worker_lines n number worker = record {
  name = codes "w" ++ decimal worker;
  proc = worker;
  items = step_items n (number + 1) (steps_of worker n);
}

-- the script of n steps
abbrev pub generated : ℕ → Script
generated n = record {
  procs = 4;
  objects = objects;
  workers = map (λ worker. worker_lines n (worker_line n worker) worker) (range_with_len 0 4);
}
