-- The history of a closed system.
use Rattle.std.specs.Prelude as prelude
use Rattle.std.specs.Prelude.{◌≡◌, ℕ, ◌<◌, List, length, Some, slice_get}
use Rattle.k42_kinds.specs.Histories.{IsInOrder}
use Rattle.k42_kinds.specs.Legal.{IsLegalHistoryOf}
use Rattle.k42_kinds.specs.OneThread.{OneThread}
use Rattle.k42_kinds.specs.declared.entry.Entry.{Entry}
use Rattle.k42_board.specs.declared.keep.Keep.TheVariants.{All}
use Rattle.k42_places.specs.Places.{EachPlace}
use Rattle.k42_stamp.specs.Lists.{IsMerged}
use Rattle.k42_rule.specs.Finishing.{IsPassAtRest}
use Rattle.k42_board.specs.Seen.{PassSeen}
use Rattle.k42_runtime.specs.Plans.{PlanSeen}
use Rattle.k42_runtime.specs.Systems.{SystemSeen}

-- its entries, in order, and the plan of its system
pub record HistorySeen (L O R : Type 0) : Type 0 where
  pub entries : List (Entry O R)
  pub plan : PlanSeen L

-- One legal history of the plan's objects, in which the entries of each caller stand once and in order, and no others:
-- those of the lists in the order of stamp, object, cell and caller, numbered from 1.
pub record IsClosed
    {S L O R : Type 0} (object_of : L → OneThread S O R) (plan : PlanSeen L) (lists : List (List (Entry O R)))
    (history : HistorySeen L O R)
    : Type 0 where
  pub plan_is : history.plan ≡ plan
  pub merged : IsMerged lists history.entries
  pub legal : IsLegalHistoryOf object_of plan.objects history.entries
  pub in_order : (c : ℕ) (list : List (Entry O R)) → slice_get lists c ≡ Some list → IsInOrder history.entries c list
  pub no_stranger : prelude.All (λ entry. entry.caller < length plan.callers) history.entries

-- there is such a history, whether anybody has written it down or not
abbrev pub HasHistory : {S L O R : Type 0} → (L → OneThread S O R) → PlanSeen L → List (List (Entry O R)) → Type 0
HasHistory {S} {L} {O} {R} object_of plan lists =
    (history : HistorySeen L O R) × IsClosed object_of plan lists history

-- all passes of the system, in order, each with nothing under way
pub record MayEnd {L P O R : Type 0} (system : SystemSeen L) (passes : List (PassSeen P O R)) : Type 0 where
  pub many : length passes ≡ length system.plan.callers
  pub each : EachPlace (IsPassAtRest system.sys) passes

-- and each has kept all its entries
pub record MayClose {L P O R : Type 0} (system : SystemSeen L) (passes : List (PassSeen P O R)) : Type 0 where
  pub may_end : MayEnd system passes
  pub all : EachPlace (λ c pass. pass.keep.what ≡ All) passes
