-- Keys, texts and entries as plain structs.
use Rattle.std.specs.Prelude.{ℕ, ◌==◌, if◌then◌else◌, List, [], take}
use Rattle.std.specs.Option.{unwrap_or}
use Rattle.k42_kinds.specs.Padded.{padded}
use Rattle.k42_kinds.specs.declared.operation.Reply.{Reply}
use Rattle.k42_kinds.specs.declared.entry.Act.{Act}
use Rattle.k42_kinds.specs.declared.entry.Act.TheVariants as acts
use Rattle.k42_kinds.specs.declared.entry.Answer.{Answer}
use Rattle.k42_kinds.specs.declared.entry.Answer.TheVariants as answers
use Rattle.k42_kinds.specs.declared.entry.Entry.{Entry}
use Rattle.k42_kinds.specs.declared.entry.To.{To}
use Rattle.k42_kinds.specs.declared.entry.To.TheVariants as tos
use Rattle.k42_kinds.specs.declared.operation.Op.{Op}
use Rattle.k42_kinds.specs.declared.operation.Op.TheVariants as ops
use Rattle.k42_kinds.specs.declared.operation.Reply.TheVariants as replies
use Rattle.k42_limits.specs.declared.TheConstants.{NAME_BYTES, TEXT_BYTES}
use Rattle.k42_handles.specs.Codes.{reply_code}
use Rattle.k42_runtime.specs.declared.swaps.Cause.TheVariants as causes
use Rattle.k42_runtime.specs.declared.swaps.Swapped.TheVariants as ends
use Rattle.k42_handles.specs.declared.coding.TheConstants.{DONE, GONE, MEMORY, BUSY, SPENT, LEFT, ROLE, INSIDE, CELL}
use Rattle.k42_handles.specs.declared.plain.K42Entry.{K42Entry}
use Rattle.k42_handles.specs.declared.plain.K42Key.{K42Key}
use Rattle.k42_handles.specs.declared.plain.K42Swapping.{K42Swapping}
use Rattle.k42_handles.specs.declared.plain.K42Text.{K42Text}
use Rattle.k42_handles.specs.declared.swapping.Progress.{Progress}
use Rattle.k42_handles.specs.declared.swapping.Progress.TheVariants.{Underway, Ended}

-- no name is longer than the array, nor is a text
abbrev pub plain_key : List ℕ → K42Key
plain_key name =
    let kept = padded NAME_BYTES (take NAME_BYTES name) in record { length = kept.len; bytes = kept.cells }

abbrev pub plain_text : List ℕ → K42Text
plain_text text =
    let kept = padded TEXT_BYTES (take TEXT_BYTES text) in record { length = kept.len; bytes = kept.cells }

-- the number of an operation, in the order of `Op`, and that of a swap behind them
abbrev pub op_number : Op → ℕ
op_number (ops.Add amount) = 0
op_number ops.Get = 1
op_number ops.Drain = 2
op_number (ops.Bind key number) = 3
op_number (ops.Find key) = 4
op_number (ops.Unbind key) = 5
op_number ops.Size = 6
op_number (ops.Write page text) = 7
op_number (ops.Read page) = 8
op_number ops.Dirty = 9
op_number ops.Clean = 10
op_number ops.Seen = 11

abbrev pub to_number : To → ℕ
to_number (tos.Layout number) = if number == 0 then 12 else 13
to_number tos.Dead = 14
to_number tos.Watch = 15
to_number tos.Unwatch = 16

abbrev pub act_number : Act Op → ℕ
act_number (acts.Call op) = op_number op
act_number (acts.Swap to) = to_number to

-- what was added or bound
abbrev pub number_asked : Act Op → ℕ
number_asked (acts.Call (ops.Add amount)) = amount
number_asked (acts.Call (ops.Bind key number)) = number
number_asked _ = 0

abbrev pub page_asked : Act Op → ℕ
page_asked (acts.Call (ops.Write page text)) = page
page_asked (acts.Call (ops.Read page)) = page
page_asked _ = 0

abbrev pub key_asked : Act Op → List ℕ
key_asked (acts.Call (ops.Bind key number)) = key
key_asked (acts.Call (ops.Find key)) = key
key_asked (acts.Call (ops.Unbind key)) = key
key_asked _ = []

abbrev pub text_asked : Act Op → List ℕ
text_asked (acts.Call (ops.Write page text)) = text
text_asked _ = []

-- the text that was read, or else that was written
abbrev pub text_told : Act Op → Answer Reply → List ℕ
text_told act (answers.Replied (replies.Text text)) = text
text_told act _ = text_asked act

abbrev pub answer_code : Answer Reply → ℕ
answer_code (answers.Replied reply) = reply_code reply
answer_code (answers.Swapped number) = DONE
answer_code (answers.Busy number) = BUSY
answer_code answers.Spent = SPENT
answer_code answers.Gone = GONE
answer_code (answers.Abandoned number) = MEMORY

-- the number that was replied, or which a swap has
abbrev pub number_told : Answer Reply → ℕ
number_told (answers.Replied (replies.Number number)) = number
number_told (answers.Swapped number) = number
number_told (answers.Busy number) = number
number_told (answers.Abandoned number) = number
number_told _ = 0

abbrev pub plain_entry : Entry Op Reply → K42Entry
plain_entry entry = record {
  place = entry.stamp;
  index = entry.index;
  number = number_asked entry.act;
  reply = number_told entry.answer;
  caller = entry.caller;
  processor = entry.proc;
  generation = unwrap_or entry.generation 0;
  object = entry.object;
  incarnation = entry.incarnation;
  asked = act_number entry.act;
  status = answer_code entry.answer;
  page = page_asked entry.act;
  key = plain_key (key_asked entry.act);
  text = plain_text (text_told entry.act entry.answer);
}

-- how far a swap is: under which number it ended, or what holds it up, at which processor or pass, and how many there
abbrev pub plain_progress : Progress → K42Swapping
plain_progress (Underway (causes.Left proc left)) = record { number = 0; cause = LEFT; at = proc; count = left }
plain_progress (Underway (causes.RoleHeld holder)) = record { number = 0; cause = ROLE; at = holder; count = 0 }
plain_progress (Underway (causes.InFlight count)) = record { number = 0; cause = INSIDE; at = 0; count = count }
plain_progress (Underway (causes.CellHeld holder)) = record { number = 0; cause = CELL; at = holder; count = 0 }
plain_progress (Ended (ends.Done number)) = record { number = number; cause = 0; at = 0; count = 0 }
plain_progress (Ended (ends.Busy number)) = record { number = number; cause = 0; at = 0; count = 0 }
plain_progress (Ended end) = record { number = 0; cause = 0; at = 0; count = 0 }
