-- Who carried out which swap.
use Rattle.std.specs.Prelude.{◌≡◌, ℕ, ◌+◌, ◌*◌, ◌^◌, ◌<◌, Bool, false, ◌&&◌, ◌||◌, ◌==◌, not, List, fold, Option, Some, None, if◌then◌else◌}
use Rattle.std.specs.List.{list_any}
use Rattle.std.specs.Ordering.{nat_cmp}
use Rattle.std.specs.BTreeMap.{get}
use Rattle.k42_kinds.specs.declared.operation.Reply.{Reply}
use Rattle.k42_kinds.specs.declared.entry.Answer.{Answer}
use Rattle.k42_kinds.specs.declared.entry.Answer.TheVariants.{Swapped}
use Rattle.record_text.specs.declared.record.RecordLine.{RecordLine}
use Rattle.record_text.specs.declared.judging.doers.Doer.{Doer}
use Rattle.record_text.specs.declared.judging.doers.Doers.{Doers}

-- the swap of this number was carried out
abbrev pub has_number : Answer Reply → ℕ → Bool
has_number (Swapped other) number = other == number
has_number _ number = false

-- the line tells of the swap of this number of this object, as carried out
abbrev pub is_swap : ℕ → ℕ → RecordLine → Bool
is_swap object number line = (line.object == object) && has_number line.answer number

-- a worker other than this one carried out the swap of this number
abbrev pub has_rival : List RecordLine → ℕ → ℕ → ℕ → Bool
has_rival lines worker object number =
    list_any (λ line. is_swap object number line && not (line.worker == worker)) lines

-- one more worker who carried it out
abbrev pub joined : Option Doer → ℕ → Doer
joined None worker = record { first = worker; several = false }
joined (Some doer) worker =
    record { first = doer.first; several = doer.several || not (doer.first == worker) }

abbrev pub doer_after : ℕ → ℕ → Option Doer → RecordLine → Option Doer
doer_after object number known line =
    if is_swap object number line then Some (joined known line.worker) else known

-- who carried out the swap of this number
abbrev pub doer_of : List RecordLine → ℕ → ℕ → Option Doer
doer_of lines object number = fold (doer_after object number) None lines

abbrev pub key_of : ℕ → ℕ → ℕ
key_of object number = object * 2 ^ 32 + number

-- who carried out each swap stands under its key
abbrev pub Knows : List RecordLine → Doers → Type 0
Knows lines doers =
    (object number : ℕ) → number < 2 ^ 32
    → get nat_cmp doers.known (key_of object number) ≡ doer_of lines object number
