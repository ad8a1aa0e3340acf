-- The record of a history, and so its text.
use Rattle.std.specs.Prelude.{ℕ, ◌<◌, ◌==◌, if◌then◌else◌, List, [], length, map, Option, Some, None, slice_get}
use Rattle.std.specs.Option.{option_map_or}
use Rattle.k42_kinds.specs.declared.operation.Op.{Op}
use Rattle.k42_kinds.specs.declared.operation.Reply.{Reply}
use Rattle.k42_kinds.specs.declared.entry.Entry.{Entry}
use Rattle.script_text.specs.Lawful.{call_lines}
use Rattle.script_text.specs.declared.script.CallLine.{CallLine}
use Rattle.script_text.specs.declared.script.Script.{Script}
use Rattle.record_text.specs.Texts.{record_text}
use Rattle.record_text.specs.declared.record.Extra.{Extra}
use Rattle.record_text.specs.declared.record.RecordLine.{RecordLine}
use Rattle.record_text.specs.declared.record.Record.{Record}

-- the lines of a worker that ask something of an object
abbrev pub calls_of : Script → ℕ → List CallLine
calls_of script worker =
    option_map_or (λ lines. call_lines lines.items) (slice_get script.workers worker) []

-- the number, in the script, of the line with this place among the worker's
abbrev pub line_number : Script → ℕ → ℕ → ℕ
line_number script worker index =
    option_map_or (λ line. line.line) (slice_get (calls_of script worker) index) 0

-- the entry's caller is a worker of the script, and its index is the place of one of that worker's
-- lines
pub record HasLine (script : Script) (entry : Entry Op Reply) : Type 0 where
  pub caller : entry.caller < length script.workers
  pub index : entry.index < length (calls_of script entry.caller)

-- what version 2 tells of an entry besides
abbrev pub extra_of : ℕ → Entry Op Reply → Option Extra
extra_of version entry =
    if version == 2 then Some (record { proc = entry.proc; generation = entry.generation }) else None

-- the line of an entry that answers the script's line of this number
abbrev pub line_at : ℕ → ℕ → Entry Op Reply → RecordLine
line_at version number entry = record {
  stamp = entry.stamp;
  worker = entry.caller;
  line = number;
  object = entry.object;
  act = entry.act;
  answer = entry.answer;
  incarnation = entry.incarnation;
  extra = extra_of version entry;
}

-- the line of an entry
abbrev pub line_of : Script → ℕ → Entry Op Reply → RecordLine
line_of script version entry = line_at version (line_number script entry.caller entry.index) entry

-- the record of a history, one line for each entry in its order
abbrev pub record_of : Script → List (Entry Op Reply) → ℕ → Record
record_of script history version =
    record { lines = map (line_of script version) history; version = version }

-- the text of a history
abbrev pub history_text : Script → List (Entry Op Reply) → ℕ → List ℕ
history_text script history version = record_text script (record_of script history version)
