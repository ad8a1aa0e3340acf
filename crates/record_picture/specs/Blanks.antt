-- What a script and a record are where each name and each text is left out.
use Rattle.std.specs.Prelude.{[], map}
use Rattle.k42_kinds.specs.declared.operation.Op.TheVariants.{Get}
use Rattle.k42_kinds.specs.declared.operation.Reply.{Reply}
use Rattle.k42_kinds.specs.declared.operation.Reply.TheVariants as replies
use Rattle.k42_kinds.specs.declared.entry.Act.TheVariants.{Call}
use Rattle.k42_kinds.specs.declared.entry.Answer.{Answer}
use Rattle.k42_kinds.specs.declared.entry.Answer.TheVariants.{Replied}
use Rattle.script_text.specs.declared.script.Item.{Item}
use Rattle.script_text.specs.declared.script.Item.TheVariants.{Line}
use Rattle.script_text.specs.declared.script.ObjectLine.{ObjectLine}
use Rattle.script_text.specs.declared.script.Script.{Script}
use Rattle.script_text.specs.declared.script.WorkerLines.{WorkerLines}
use Rattle.record_text.specs.declared.record.Record.{Record}
use Rattle.record_text.specs.declared.record.RecordLine.{RecordLine}

-- a line that asks something asks `get`, which is given no name and no text
abbrev pub blank_item : Item → Item
blank_item (Line line) = Line (record line { act = Call Get })
blank_item item = item

abbrev pub blank_worker : WorkerLines → WorkerLines
blank_worker worker = record worker { name = []; items = map blank_item worker.items }

abbrev pub blank_object : ObjectLine → ObjectLine
blank_object object = record object { name = [] }

abbrev pub blank_script : Script → Script
blank_script script = record script {
  objects = map blank_object script.objects;
  workers = map blank_worker script.workers;
}

abbrev pub blank_reply : Reply → Reply
blank_reply (replies.Text text) = replies.Text []
blank_reply reply = reply

abbrev pub blank_answer : Answer Reply → Answer Reply
blank_answer (Replied reply) = Replied (blank_reply reply)
blank_answer answer = answer

-- an entry asks `get` too, and replies no text
abbrev pub blank_line : RecordLine → RecordLine
blank_line line = record line { act = Call Get; answer = blank_answer line.answer }

abbrev pub blank_record : Record → Record
blank_record written = record written { lines = map blank_line written.lines }
