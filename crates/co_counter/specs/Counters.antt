-- Two ways to keep a counter: as one value, and as an amount for each processor.
use Rattle.std.specs.Prelude.{◌≡◌, ℕ, zero, suc, ◌%◌, ◌^◌, ◌<◌, List, [], ◌∷◌, length, replicate, sum}
use Rattle.k42_kinds.specs.declared.operation.Op.{Op}
use Rattle.k42_kinds.specs.declared.operation.Op.TheVariants.{Add, Drain}
use Rattle.k42_kinds.specs.declared.operation.Reply.{Reply}
use Rattle.k42_kinds.specs.declared.entry.Reach.{Reach}
use Rattle.k42_kinds.specs.declared.entry.Reach.TheVariants.{One, All}
use Rattle.k42_kinds.specs.Objects.{counter_after, counter_reply}
use Rattle.k42_kinds.specs.Rows.{Ways, changed_at}

-- the values that a counter has
abbrev pub IsValue : ℕ → Type 0
IsValue value = value < 2 ^ 64

-- the one value that is kept, for all processors
abbrev pub IsOneValue : ℕ → List ℕ → Type 0
IsOneValue procs (value ∷ []) = IsValue value
IsOneValue procs _ = ⊥

abbrev pub value_of : List ℕ → ℕ
value_of [] = 0
value_of (value ∷ values) = value

abbrev pub shared : Ways ℕ ℕ Op Reply
shared = record {
  reach = λ procs op proc. One 0;
  empty = λ procs cell. 0;
  part_after = counter_after;
  part_reply = counter_reply;
  row_after = λ values op. changed_at (λ value. counter_after value op) values 0;
  row_reply = λ values op. counter_reply (value_of values) op;
  combine = value_of;
  imported = λ procs value. value ∷ [];
}

-- an amount for each processor
abbrev pub HasAmounts : ℕ → List ℕ → Type 0
HasAmounts procs amounts = length amounts ≡ procs

-- the amounts together, as a counter counts
abbrev pub total_of : List ℕ → ℕ
total_of amounts = sum amounts % 2 ^ 64

-- a caller adds to its own processor's amount; the others need all amounts
abbrev pub spread_reach : ℕ → Op → ℕ → Reach
spread_reach procs (Add amount) proc = One proc
spread_reach procs _ proc = All

abbrev pub amounts_after : List ℕ → Op → List ℕ
amounts_after amounts (Add amount) = changed_at (λ own. counter_after own (Add amount)) amounts 0
amounts_after amounts Drain = replicate (length amounts) 0
amounts_after amounts _ = amounts

-- the whole value is the first processor's
abbrev pub first_amount : ℕ → ℕ → List ℕ
first_amount zero value = []
first_amount (suc others) value = value ∷ replicate others 0

abbrev pub spread : Ways ℕ ℕ Op Reply
spread = record {
  reach = spread_reach;
  empty = λ procs cell. 0;
  part_after = counter_after;
  part_reply = counter_reply;
  row_after = amounts_after;
  row_reply = λ amounts op. counter_reply (total_of amounts) op;
  combine = total_of;
  imported = first_amount;
}
