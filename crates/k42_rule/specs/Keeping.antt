-- What a pass keeps of its entries, and what it knows of their stamps.
use Rattle.std.specs.Prelude.{◌≡◌, ℕ, ◌≤◌, ⊤, List, length}
use Rattle.k42_kinds.specs.declared.entry.Entry.{Entry}
use Rattle.k42_limits.specs.declared.TheConstants.{PASS_ENTRIES}
use Rattle.k42_places.specs.Places.{EachPlace}
use Rattle.k42_log.specs.Logs.{LogSeen, IsNextOf}
use Rattle.k42_stamp.specs.Lists.{IsListOf}
use Rattle.k42_board.specs.Seen.{Keeping, IsParted, kept_by}
use Rattle.k42_board.specs.declared.keep.Keep.{Keep}
use Rattle.k42_board.specs.declared.keep.Keep.TheVariants as keeps

-- the index of the first entry that is kept: a section takes the entries before it
abbrev pub first_of : Keep → ℕ → ℕ
first_of keeps.Sections given = given
first_of keep given = 0

abbrev pub first_kept : Keeping → ℕ
first_kept keep = first_of keep.what keep.given

-- Its list is that of its caller; no stamp is above the clock, and the last section is not later either.
pub record HasKept {O R : Type 0} (keep : Keeping) (number home : ℕ) (mine : List (Entry O R)) (clock : ℕ) (kept : LogSeen O R) : Type 0 where
  pub kept_is : kept.entries ≡ kept_by keep mine
  pub owner : kept.owner ≡ record { caller = number; proc = home }
  pub first : kept.first ≡ first_kept keep
  pub list : IsListOf number mine
  pub parted : IsParted keep mine
  pub below : EachPlace (λ place entry. entry.stamp ≤ clock) mine
  pub since : keep.since ≤ clock
  pub few : length mine ≤ PASS_ENTRIES

-- where any are kept, the entry is the next one of the log
abbrev pub MayKeep : {O R : Type 0} → Keep → LogSeen O R → Entry O R → Type 0
MayKeep keeps.All log entry = IsNextOf log entry
MayKeep keeps.Sections log entry = IsNextOf log entry
MayKeep keeps.Nothing log entry = ⊤
