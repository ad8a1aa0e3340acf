use Rattle.std.specs.Prelude.{ℕ, ◌+◌, ◌-◌, ◌^◌, min, List}

-- how many calls were made, the numbers of those that fail, and how many have failed
pub record Calls : Type 0 where
  pub made : ℕ
  pub failing : List ℕ
  pub faults : ℕ

-- before the first call
abbrev pub new_calls : List ℕ → Calls
new_calls numbers = record { made = 0; failing = numbers; faults = 0 }

-- the number of the next call, counted from 1; the count stands still at the end of its type
abbrev pub next_number : Calls → ℕ
next_number calls = min (calls.made + 1) (2 ^ 64 - 1)

-- after one more call that did not fail
abbrev pub after_call : Calls → Calls
after_call calls = record calls { made = next_number calls }

-- after one more call that failed
abbrev pub after_fault : Calls → Calls
after_fault calls = record calls { made = next_number calls; faults = calls.faults + 1 }
