-- The entries that a roll leaves with a pass.
use Rattle.std.specs.Prelude.{◌≡◌, ℕ, ◌+◌, ◌≤◌, ◌⊎◌, List, [], ◌∷◌, ◌++◌, length, Result, Ok, Err, IsSomeAnd, slice_get}
use Rattle.k42_kinds.specs.declared.operation.Op.{Op}
use Rattle.k42_kinds.specs.declared.operation.Reply.{Reply}
use Rattle.k42_kinds.specs.declared.entry.Act.TheVariants as acts
use Rattle.k42_kinds.specs.declared.entry.Answer.{Answer}
use Rattle.k42_kinds.specs.declared.entry.Answer.TheVariants.{Abandoned}
use Rattle.k42_kinds.specs.declared.entry.Entry.{Entry}
use Rattle.k42_runtime.specs.Swaps.{IsSameCaller, answer_told}
use Rattle.k42_runtime.specs.declared.swaps.NoSwap.{NoSwap}
use Rattle.k42_runtime.specs.declared.swaps.NoSwap.TheVariants.{Memory, Worn}
use Rattle.k42_runtime.specs.declared.swaps.Swapped.{Swapped}
use Rattle.k42_kinds.specs.declared.entry.To.{To}
use Rattle.co_system.specs.Systems.{SystemPass}

-- the entry has the item's object and act, and this answer
pub record IsEntryOf (asked : ℕ × To) (answer : Answer Reply) (entry : Entry Op Reply) : Type 0 where
  pub object : entry.object ≡ asked.0
  pub act : entry.act ≡ acts.Swap asked.1
  pub answer_is : entry.answer ≡ answer

-- it tells that the item was given up
abbrev pub IsGivenUp : ℕ × To → Entry Op Reply → Type 0
IsGivenUp asked entry = (number : ℕ) × IsEntryOf asked (Abandoned number) entry

-- an item that is Ok has just one entry, an item without memory none, or one that tells that it was given up, and
-- an item of a pass that was worn out none; the others follow
abbrev pub BeginWith : ℕ × To → Result Swapped NoSwap → (List (Entry Op Reply) → Type 0) → List (Entry Op Reply) → Type 0
BeginWith asked (Ok end) Rest entries =
    (entry : Entry Op Reply) × (others : List (Entry Op Reply)) × (entries ≡ entry ∷ others) × IsEntryOf asked (answer_told end) entry × Rest others
BeginWith asked (Err Memory) Rest entries =
    Rest entries ⊎ ((entry : Entry Op Reply) × (others : List (Entry Op Reply)) × (entries ≡ entry ∷ others) × IsGivenUp asked entry × Rest others)
BeginWith asked (Err Worn) Rest entries = Rest entries

-- the entries of these items of the plan, in order
abbrev pub AreEntriesOf : List (ℕ × To) → List (Result Swapped NoSwap) → List ℕ → List (Entry Op Reply) → Type 0
AreEntriesOf plan answers [] entries = entries ≡ []
AreEntriesOf plan answers (item ∷ items) entries =
    IsSomeAnd (slice_get plan item) (λ asked. IsSomeAnd (slice_get answers item) (λ answer.
    BeginWith asked answer (AreEntriesOf plan answers items) entries))

-- besides its former entries the pass has drawn those of these items
abbrev pub HasDrawnFor : List (ℕ × To) → List (Result Swapped NoSwap) → List ℕ → SystemPass → SystemPass → Type 0
HasDrawnFor plan answers items old new =
    (entries : List (Entry Op Reply)) × (new.view.taker.mine ≡ old.view.taker.mine ++ entries) × AreEntriesOf plan answers items entries

-- The pass is that of the same caller of the same system. It has begun at most one grace for each of these items, and has drawn
-- their entries.
pub record HasBroughtBack (plan : List (ℕ × To)) (answers : List (Result Swapped NoSwap)) (items : List ℕ) (old new : SystemPass) : Type 0 where
  pub seat : new.seat ≡ old.seat
  pub keep : new.keep ≡ old.keep
  pub caller : IsSameCaller old.view new.view
  pub graces : new.view.graces ≤ old.view.graces + length items
  pub drawn : HasDrawnFor plan answers items old new
