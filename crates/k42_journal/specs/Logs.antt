-- The logs of several callers.
use Rattle.std.specs.Prelude.{ℕ, ◌+◌, ◌^◌, ◌<◌, List, map}
use Rattle.k42_kinds.specs.declared.entry.Entry.{Entry}
use Rattle.k42_log.specs.Logs.{LogSeen}
use Rattle.k42_stamp.specs.Lists.{AreLists}
use Rattle.k42_stamp.specs.Merging.{entries_in}

abbrev pub entries_of : {O R : Type 0} → LogSeen O R → List (Entry O R)
entries_of log = log.entries

-- log number so many has that caller's list
abbrev pub lists_of : {O R : Type 0} → List (LogSeen O R) → List (List (Entry O R))
lists_of logs = map entries_of logs

-- callers' lists, and the number behind that of their last entry fits
pub record MayMerge {O R : Type 0} (first : ℕ) (lists : List (List (Entry O R))) : Type 0 where
  pub are : AreLists lists
  pub fits : first + entries_in lists < 2 ^ 64
