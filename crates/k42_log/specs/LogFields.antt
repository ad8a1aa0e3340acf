-- What the fields of a log say.
use Rattle.std.specs.Prelude.{ℕ, ◌+◌, ◌-◌, ◌^◌, ◌<◌, List, length, min, vec_capacity}
use Rattle.k42_kinds.specs.declared.packed.Size.{Size}
use Rattle.k42_kinds.specs.declared.entry.Entry.{Entry}
use Rattle.k42_kinds.specs.Packing.{Packing}
use Rattle.k42_log.specs.declared.log.Log.TheInside.{Inside}
use Rattle.k42_log.specs.Details.{entries_fitting}
use Rattle.k42_log.specs.Entries.{AreWhole, Owner, entries_back}
use Rattle.k42_log.specs.Stored.{details_in, spare_in}
use Rattle.k42_log.specs.Logs.{LogSeen}

-- more than the details of any entry
abbrev pub over_most : {O R : Type 0} → Packing O → Packing R → Size
over_most ops replies = record {
  words = ops.most.words + replies.most.words + 1;
  bytes = ops.most.bytes + replies.most.bytes + 1;
}

abbrev pub owner_in : {O R : Type 0} → Inside O R → Owner
owner_in log = record { caller = log.caller; proc = log.proc }

abbrev pub entries_in : {O R : Type 0} → Packing O → Packing R → Inside O R → List (Entry O R)
entries_in ops replies log =
    entries_back ops replies (owner_in log) log.first log.heads.items (details_in log.stored)

abbrev pub room_in : {O R : Type 0} → Packing O → Packing R → Inside O R → ℕ
room_in ops replies log =
    min (vec_capacity log.heads - length log.heads.items)
    (entries_fitting (over_most ops replies) (spare_in log.stored))

abbrev pub seen : {O R : Type 0} → Packing O → Packing R → Inside O R → LogSeen O R
seen ops replies log = record {
  owner = owner_in log;
  first = log.first;
  entries = entries_in ops replies log;
  room = room_in ops replies log;
}

-- the heads have their details, and the next index fits
pub record IsSound {O R : Type 0} (ops : Packing O) (replies : Packing R) (log : Inside O R) : Type 0 where
  pub whole : AreWhole ops replies log.heads.items (details_in log.stored)
  pub fits : log.first + length log.heads.items < 2 ^ 64
