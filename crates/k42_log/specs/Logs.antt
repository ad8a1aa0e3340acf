-- A log: entries of one caller, and room for more.
use Rattle.std.specs.Prelude.{◌≡◌, ℕ, ◌+◌, ◌-◌, ◌<◌, List, length, Option, Some, None, slice_get}
use Rattle.k42_limits.specs.declared.TheConstants.{OBJECTS, PASS_ENTRIES}
use Rattle.k42_kinds.specs.declared.entry.Act.TheVariants.{Call}
use Rattle.k42_kinds.specs.declared.entry.Answer.TheVariants.{Replied}
use Rattle.k42_kinds.specs.declared.entry.Entry.{Entry}
use Rattle.k42_kinds.specs.Histories.{is_call}
use Rattle.k42_log.specs.declared.head.TheConstants.{CELLS}
use Rattle.k42_log.specs.Names.{is_reply}
use Rattle.k42_log.specs.Entries.{Owner}

-- the first of its entries has this index, and there is room for so many more of any kind
pub record LogSeen (O R : Type 0) : Type 0 where
  pub owner : Owner
  pub first : ℕ
  pub entries : List (Entry O R)
  pub room : ℕ

-- the index of the next entry
abbrev pub next_index : {O R : Type 0} → LogSeen O R → ℕ
next_index log = log.first + length log.entries

-- An entry that the pass of the log draws next: a call that was replied to, or a swap that was
-- answered otherwise.
pub record IsNextOf {O R : Type 0} (log : LogSeen O R) (entry : Entry O R) : Type 0 where
  pub caller : entry.caller ≡ log.owner.caller
  pub proc : entry.proc ≡ log.owner.proc
  pub index : entry.index ≡ next_index log
  pub few : entry.index < PASS_ENTRIES
  pub object : entry.object < OBJECTS
  pub cell : entry.cell < CELLS
  pub answered : is_call entry.act ≡ is_reply entry.answer

-- the next entry, of a call
abbrev pub call_entry : {O R : Type 0} → LogSeen O R → (stamp object row cell : ℕ) → Option ℕ → O → R → Entry O R
call_entry log stamp object row cell generation op reply = record {
  stamp = stamp;
  index = next_index log;
  caller = log.owner.caller;
  object = object;
  incarnation = row;
  cell = cell;
  act = Call op;
  answer = Replied reply;
  proc = log.owner.proc;
  generation = generation;
}

-- the last entry, if there is one, its stamp and its incarnation, which are 0 where there is none

abbrev pub last_entry : {O R : Type 0} → List (Entry O R) → Option (Entry O R)
last_entry entries = slice_get entries (length entries - 1)

abbrev pub stamp_or_0 : {O R : Type 0} → Option (Entry O R) → ℕ
stamp_or_0 None = 0
stamp_or_0 (Some entry) = entry.stamp

abbrev pub incarnation_or_0 : {O R : Type 0} → Option (Entry O R) → ℕ
incarnation_or_0 None = 0
incarnation_or_0 (Some entry) = entry.incarnation
