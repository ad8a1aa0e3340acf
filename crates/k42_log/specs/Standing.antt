-- How an entry stands among those of other callers.
use Rattle.k42_kinds.specs.declared.entry.Entry.{Entry}
use Rattle.k42_log.specs.declared.unread.Standing.{Standing}

abbrev pub standing_of : {O R : Type 0} → Entry O R → Standing
standing_of entry = record {
  stamp = entry.stamp;
  object = entry.object;
  cell = entry.cell;
  caller = entry.caller;
}
