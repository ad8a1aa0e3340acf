-- What the numbers of a generated script are, and how a history is summed up.
use Rattle.std.specs.Prelude.{ℕ, ◌+◌, ◌-◌, ◌%◌, ◌/◌, ◌==◌, ◌||◌, ◌&&◌, not, Bool, if◌then◌else◌, List, sum_by, count_by, fold, Option, Some, None}
use Rattle.std.specs.List.{range_with_len, list_any}
use Rattle.std.specs.FinMap as finite
use Rattle.k42_limits.specs.declared.TheConstants.{PAGES}
use Rattle.k42_kinds.specs.Histories.{is_carried_out}
use Rattle.k42_kinds.specs.Objects.{counter_after, directory_after, pages_after}
use Rattle.k42_kinds.specs.Operations.{kind_of_op}
use Rattle.k42_kinds.specs.Pages.{dirty_count}
use Rattle.k42_kinds.specs.declared.operation.Reply.{Reply}
use Rattle.k42_kinds.specs.declared.entry.Act.{Act}
use Rattle.k42_kinds.specs.declared.entry.Act.TheVariants.{Call, Swap}
use Rattle.k42_kinds.specs.declared.entry.Answer.{Answer}
use Rattle.k42_kinds.specs.declared.entry.Entry.{Entry}
use Rattle.k42_kinds.specs.declared.operation.KindName.{KindName}
use Rattle.k42_kinds.specs.declared.operation.KindName.TheVariants as kinds
use Rattle.k42_kinds.specs.declared.operation.Op.{Op}
use Rattle.script_text.specs.Generated.{value_at}
use Rattle.load_totals.specs.declared.totals.Summary.{Summary}
use Rattle.load_totals.specs.declared.summing.Tally.{Tally}

-- the steps of a generated script
abbrev pub steps : ℕ → List ℕ
steps n = range_with_len 1 n

-- of a thousand steps three are swaps
abbrev pub is_swap : ℕ → Bool
is_swap k = (k % 1000 == 0) || (k % 1000 == 252) || (k % 1000 == 500)

-- the others call the three objects by turns: 0 the counter, 1 the directory, 2 the pages
abbrev pub calls_object : ℕ → ℕ → Bool
calls_object object k = not (is_swap k) && (k / 4 % 3 == object)

abbrev pub swaps_due : ℕ → ℕ
swaps_due n = count_by is_swap (steps n)

-- what step k adds to the counter
abbrev pub amount_at : ℕ → ℕ → ℕ
amount_at n k = if calls_object 0 k then value_at n k else 0

-- whether step k binds the name of this number
abbrev pub binds : ℕ → ℕ → ℕ → Bool
binds n name k = calls_object 1 k && (value_at n k % 100 == name)

-- whether it writes the page of this number
abbrev pub writes : ℕ → ℕ → ℕ → Bool
writes n page k = calls_object 2 k && (value_at n k % PAGES == page)

-- The calls, the sum of the amounts, the number of names bound, of pages written, and of swaps.
abbrev pub summary_due : ℕ → Summary
summary_due n = record {
  calls = n - swaps_due n;
  total = sum_by (amount_at n) (steps n);
  names = count_by (λ name. list_any (binds n name) (steps n)) (range_with_len 0 100);
  dirty = count_by (λ page. list_any (writes n page) (steps n)) (range_with_len 0 PAGES);
  swaps = swaps_due n;
}

-- an operation of the one object of its kind; where it has none, it changes no object
abbrev pub called_by : Option KindName → Tally → Op → Tally
called_by (Some kinds.Counter) tally op = record tally { hits = counter_after tally.hits op; calls = tally.calls + 1 }
called_by (Some kinds.Directory) tally op = record tally { names = directory_after tally.names op; calls = tally.calls + 1 }
called_by (Some kinds.Pages) tally op = record tally { cache = pages_after tally.cache op; calls = tally.calls + 1 }
called_by None tally op = record tally { calls = tally.calls + 1 }

abbrev pub tally_after : Tally → Act Op → Answer Reply → Tally
tally_after tally (Call op) answer = called_by (kind_of_op op) tally op
tally_after tally (Swap to) answer = if is_carried_out answer then record tally { swaps = tally.swaps + 1 } else tally

abbrev pub tally_with : Tally → Entry Op Reply → Tally
tally_with tally entry = tally_after tally entry.act entry.answer

abbrev pub no_tally : Tally
no_tally = record { calls = 0; swaps = 0; hits = 0; names = finite.empty; cache = finite.empty }

abbrev pub tallied : List (Entry Op Reply) → Tally
tallied entries = fold tally_with no_tally entries

-- the counter's value, how many names are bound and how many pages are dirty, and what was counted
abbrev pub summary_of : Tally → Summary
summary_of tally = record {
  calls = tally.calls;
  total = tally.hits;
  names = finite.len tally.names;
  dirty = dirty_count tally.cache;
  swaps = tally.swaps;
}
